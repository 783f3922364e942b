-- A step's result is settled by what its answer says and by the record that it leaves.
use Rattle.std.proofs.Common.{◌≡◌, Result, Ok, Err, ap, sym}
use Rattle.refusals.specs.declared.Refusal.{Refusal}
use Rattle.refusals.proofs.Apart.{told_apart_lem}
use Rattle.refusals.proofs.Results.{same_given, same_refused, given_or_refused}
use Rattle.messages.proofs.Apart.{said_apart}
use Rattle.messages.specs.declared.Answer.{Answer}
use Rattle.messages.specs.declared.Stepped.{Stepped}
use Rattle.messages.specs.Answers.{said, given}
use Rattle.messages.specs.Outcomes.{Outcome, outcome}
use Rattle.observer.specs.declared.Plan.{Plan}
use Rattle.observer.specs.Plan.{Planned, planned}

pub outcome_apart : {R : Type 0} {x y : Stepped R} → outcome x ≡ outcome y → x ≡ y
outcome_apart {R} e = λ i. record { answer = said_apart (ap (λ (o : Outcome R). o.answer) e) i; rec = (e i).rec }

given_or : Answer → Result Answer Refusal → Answer
given_or other (Ok a) = a
given_or other (Err r) = other

given_apart : {a b : Answer} → given a ≡ given b → a ≡ b
unfolding said given_or
given_apart {a} {b} e = ap (given_or a) (said_apart {a = Ok a} {a' = Ok b} e)

-- so is an observer's plan, by what its answer says and by its numbers
pub plan_apart : {x y : Result Plan Refusal} → planned x ≡ planned y → x ≡ y
plan_apart {x = Ok p} {y = Ok q} e =
    let same = same_given e in
    ap
    Ok
    (λ i. record {
      answer = given_apart (ap (λ (p : Planned). p.answer) same) i;
      stores = (same i).stores;
      deadline = (same i).deadline;
      latest = (same i).latest;
      last_reading = (same i).reading;
    })
plan_apart {x = Ok p} {y = Err r} e = given_or_refused e
plan_apart {x = Err r} {y = Ok q} e = given_or_refused (sym e)
plan_apart {x = Err r} {y = Err r'} e = ap Err (told_apart_lem r r' (same_refused e))
