-- The starred lines hold: every row computes to what is written.
use mathlib.Core.Path.{refl}
use Rattle.words.specs.Lists.{every, some, count_where}
use Rattle.words.specs.Said.{number, first}
use Rattle.settings.specs.Settings.{ranges, each_in, in_range, refusal_of, window}
use Rattle.quorums.specs.Quorums.{members, closes}
use Rattle.messages.specs.Messages.{fields_of, status_word}
use Rattle.messages.specs.Answers.{sent_fields, spoken_fields}
use Rattle.messages.specs.Outcomes.{unless_refused}
use Rattle.observer_rules.specs.Observer as observer
use Rattle.standby_rules.specs.Standby as standby
use Rattle.limits.specs.Limits.{rows, AsWritten}

pub as_written : AsWritten
unfolding rows count_where number first ranges each_in in_range refusal_of window members closes fields_of
    status_word sent_fields spoken_fields unless_refused
    observer.form observer.has_form observer.store observer.store_all observer.stores observer.stores_of observer.status_at
    observer.answer_of observer.reading_after observer.step_of standby.is_dead standby.is_unused standby.good_place standby.form
    standby.has_form standby.greatest standby.verdict standby.after_keeping standby.ack_event standby.step_within
as_written = refl
