-- Every message that a run sends has its form.
use Prim.Native.Nat.{ℕ}
use mathlib.Core.Path.{◌≡◌, refl}
use mathlib.Core.Bool.{Bool, true}
use mathlib.Core.List.{List, [], ◌∷◌}
use borrow.Author.Tests.{le-leb}
use Rattle.words.specs.Lists.{every}
use Rattle.words.specs.Said.{Said}
use Rattle.words.proofs.Conditions.{holds_both}
use Rattle.settings.specs.declared.Settings.{Settings}
use Rattle.messages.specs.declared.Message.{Message}
use Rattle.messages.specs.Messages.{top_reading, has_form}
use Rattle.messages.specs.Answers.{Spoken, sent, message}
use Rattle.recorder_rules.proofs.Answers.{recorder_formed}
use Rattle.recorder_rules.proofs.Keeping.{Good}
use Rattle.observer_rules.proofs.Ways.{observer_formed}
use Rattle.standby_rules.proofs.Ways.{standby_sends}
use Rattle.rack.specs.Clocks.{Clocks}
use Rattle.rack.specs.Runs.{ours_within, Event, State, Party, Sent, posted, perform, on_clock, state_after}
use Rattle.rack.specs.Runs.Event.{at_recorder, at_observer, at_standby, crash, restart}
use Rattle.rack.specs.Runs.Party.{recorder, standby, observer}
use Rattle.rack.specs.Claims.{SentMessagesHaveForm}
use Rattle.rack.proofs.Clocks.{is_reading}
use Rattle.rack.proofs.History.{posted_either}
use Rattle.rack.proofs.Along.{adds, from_start}

-- what is posted passes a test that all that was sent passes
pub posted_every : (test : Sent → Bool) (by : Party) (g : ℕ) (answer : Said Spoken) (history : List Sent)
    → every test history ≡ true
    → ((m : Message) → sent answer ≡ message m → test (record { by = by; what = m; time = g }) ≡ true)
    → every test (posted by g answer history) ≡ true
posted_every test by g answer history e f =
    posted_either (λ sent. every test sent ≡ true) by g answer history e (λ m q. holds_both (f m q) e)

module _ (w : Settings → ℕ) (s : Settings) (past : List Event) where
  abbrev st : State
  st = state_after (ours_within w) s past

  abbrev AllFormed : List Sent → Type 0
  AllFormed history = every (λ sent. has_form sent.what) history ≡ true

  posts_formed : (by : Party) (g : ℕ) (answer : Said Spoken) → AllFormed st.history
      → ((m : Message) → sent answer ≡ message m → has_form m ≡ true) → AllFormed (posted by g answer st.history)
  posts_formed by g answer = posted_every (λ sent. has_form sent.what) by g answer st.history

  one_more : (clocks : Clocks) (e : Event) → on_clock s clocks e ≡ true → Good s st.recorder → AllFormed st.history
      → AllFormed (state_after (ours_within w) s (e ∷ past)).history
  unfolding state_after perform on_clock has_form
  one_more clocks (at_recorder g r e) clock good rest =
      posts_formed recorder g _ rest (λ m. recorder_formed s st.recorder r m e good)
  one_more clocks (at_observer x g r e) clock good rest =
      posts_formed (observer x) g _ rest (observer_formed s (st.observers x) x r e)
  one_more clocks (at_standby g r e) clock good rest =
      posts_formed standby g _ rest
      (λ m q. rw (standby_sends (w s) s st.standby r e m q)
      (le-leb r top_reading (is_reading s clocks.standby g r clock).1))
  one_more clocks (crash x g) clock good rest = rest
  one_more clocks (restart g) clock good rest = rest

pub sent_messages_have_form_lem : SentMessagesHaveForm
unfolding state_after
sent_messages_have_form_lem s ok w fits clocks [] run = refl
sent_messages_have_form_lem s ok w fits clocks (e ∷ past) run =
    let a = adds (ours_within w) s clocks past e run in
    one_more w s past clocks e a.on_clock_lem (from_start s ok w fits clocks past a.before).recorder_part.good
    (sent_messages_have_form_lem s ok w fits clocks past a.before)
