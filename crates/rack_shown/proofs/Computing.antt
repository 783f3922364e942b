-- All that a run computes by: who unfolds `computing` unfolds all of it.
use Rattle.words.specs.Lists.{every, some, count_where}
use Rattle.words.specs.Said.{first}
use Rattle.settings.specs.Settings.{ranges, each_in, in_range, refusal_of, window}
use Rattle.quorums.specs.Quorums.{members, survives, closes}
use Rattle.messages.specs.Outcomes.{unless_refused}
use Rattle.recorder_rules.specs.Recorder as recorder
use Rattle.observer_rules.specs.Observer as observer
use Rattle.standby_rules.specs.Standby as standby
use Rattle.rack.specs.Clocks.{reads}
use Rattle.rack.specs.Runs.{time, party_key, status_key, message_key, same_numbers, was_sent, put, posted, perform, in_time, readings_at, rising, on_clock, delivered, state_after, answer_to, is_run}
use Rattle.rack.specs.Claims.{is_request, sent_by, prompt, is_begin, is_restart, ack_from}
use Rattle.rack_shown.specs.Tables.{answers_to}

unfoldable pub computing : Unit {0}
unfolding count_where first ranges each_in in_range refusal_of window members survives closes unless_refused
    recorder.spaced recorder.form recorder.has_form recorder.lacking_from recorder.lacking recorder.kept recorder.advanced
    recorder.accepted recorder.registered recorder.standing recorder.tick_event recorder.grant_event recorder.drive_event
    recorder.step_of
    observer.form observer.has_form observer.store observer.store_all observer.stores observer.stores_of observer.status_at
    observer.answer_of observer.reading_after observer.restart_of observer.step_of
    standby.is_dead standby.is_unused standby.good_place standby.form standby.has_form standby.begin_event standby.greatest
    standby.verdict standby.after_keeping standby.ack_event standby.poll_event standby.step_within
    reads time party_key status_key message_key same_numbers was_sent put posted perform in_time readings_at rising on_clock delivered
    state_after answer_to is_run
    is_request sent_by prompt is_begin is_restart ack_from answers_to
computing = tt
