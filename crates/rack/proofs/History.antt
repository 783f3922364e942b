-- What was sent: facts that hold of every message of the history hold of every message that is delivered.
use Rattle.std.specs.Prelude.{if◌then◌else◌}
use Prim.Native.Nat.{ℕ, ◌+◌, ◌-◌}
use native.Mathlib.Omega.{arith}
use mathlib.Core.Path.{◌≡◌, refl, sym, ap, ◌∙◌}
use mathlib.Core.Bool.{Bool, true, false, ◌&&◌, ◌||◌}
use mathlib.Core.List.{List, [], ◌∷◌, ◌++◌}
use lib.ListN.{get_or}
use borrow.Author.Tests.{eqb-true, eq-eqb, ne_eqb}
use Rattle.words.specs.Tests.{◌=?◌}
use Rattle.words.specs.Lists.{some}
use Rattle.words.specs.Said.{Said}
use Rattle.words.specs.Said.Said.{refusal, gives}
use Rattle.words.proofs.Booleans.{both_hold, not_both}
use Rattle.messages.specs.declared.Status.{Status}
use Rattle.messages.specs.declared.Status.TheVariants.{Alive, Dead}
use Rattle.messages.specs.declared.Message.{Message}
use Rattle.messages.specs.declared.Message.TheVariants.{LeaseRequest, LeaseGrant, Check, CheckAck}
use Rattle.messages.specs.Answers.{Spoken, giving, nothing, message, sent}
use Rattle.rack.specs.Runs.{Party, Sent, party_key, status_key, message_key, same_numbers, was_sent, posted}
use Rattle.rack.specs.Runs.Party.{recorder, standby, observer}

-- every element has the property
pub data All {A : Type 0} (P : A → Type 0) : List A → Type 0 where
  none : All P []
  more : {x : A} {xs : List A} → P x → All P xs → All P (x ∷ xs)

pub all_map : {A : Type 0} {P Q : A → Type 0} {xs : List A} → ((x : A) → P x → Q x) → All P xs → All Q xs
all_map f none = none
all_map f (more {x = x} p ps) = more (f x p) (all_map f ps)

-- the first has it, and the older ones
pub all_first : {A : Type 0} {P : A → Type 0} {x : A} {xs : List A} → All P (x ∷ xs) → P x
all_first (more p ps) = p

pub all_behind : {A : Type 0} {P : A → Type 0} (newer : List A) {older : List A} → All P (newer ++ older) → All P older
all_behind [] a = a
all_behind (x ∷ newer) (more p a) = all_behind newer a

-- ---- keys tell parties and messages apart

same_numbers_lem : (xs ys : List ℕ) → same_numbers xs ys ≡ true → xs ≡ ys
unfolding same_numbers
same_numbers_lem [] [] e = refl
same_numbers_lem [] (y ∷ ys) e = absurd (not_both e refl)
same_numbers_lem (x ∷ xs) [] e = absurd (not_both e refl)
same_numbers_lem (x ∷ xs) (y ∷ ys) e =
    let p = both_hold (x =? y) (same_numbers xs ys) e in
    let a = eqb-true x y p.0 in
    let b = same_numbers_lem xs ys p.1 in
    cc

pub same_key : (ks : List ℕ) → same_numbers ks ks ≡ true
unfolding same_numbers
same_key [] = refl
same_key (k ∷ ks) = rw (eq-eqb k k refl) (same_key ks)

party_of : ℕ → Party
party_of k = if k =? 0 then recorder else (if k =? 1 then standby else observer (k - 2))

party_found : (p : Party) → party_of (party_key p) ≡ p
unfolding party_of party_key
party_found recorder = refl
party_found standby = refl
party_found (observer x) =
    let back : x + 2 - 2 ≡ x = omega arith in
    rw (ne_eqb (x + 2) 0 (λ z. omega (arith, z)), ne_eqb (x + 2) 1 (λ z. omega (arith, z)), back)

status_of : ℕ → Status
status_of k = if k =? 0 then Alive else Dead

message_of_lem : List ℕ → Message
message_of_lem ks =
    if get_or ks 0 0 =? 0 then LeaseRequest (get_or ks 1 0)
    else (if get_or ks 0 0 =? 1 then LeaseGrant (get_or ks 1 0)
    else (if get_or ks 0 0 =? 2 then Check (get_or ks 1 0)
    else CheckAck (get_or ks 1 0) (get_or ks 2 0) (status_of (get_or ks 3 0))))

message_found : (m : Message) → message_of_lem (message_key m) ≡ m
unfolding message_of_lem message_key status_key status_of
message_found (LeaseRequest c) = refl
message_found (LeaseGrant c) = refl
message_found (Check ts) = refl
message_found (CheckAck ts c Alive) = refl
message_found (CheckAck ts c Dead) = refl

same_party : (p q : Party) → party_key p ≡ party_key q → p ≡ q
same_party p q e = sym (party_found p) ∙ ap party_of e ∙ party_found q

same_what : (m k : Message) → same_numbers (message_key m) (message_key k) ≡ true → m ≡ k
same_what m k e = sym (message_found m) ∙ ap message_of_lem (same_numbers_lem (message_key m) (message_key k) e) ∙ message_found k

-- ---- delivery

-- what is delivered was sent, at some time, and has what every sent message has
pub sent_has : (P : Sent → Type 0) (by : Party) (what : Message) (history : List Sent) → All P history
    → was_sent history by what ≡ true
    → (t : ℕ) × P (record { by = by; what = what; time = t })
unfolding was_sent
sent_has P by what [] none e = absurd (not_both e refl)
sent_has P by what (x ∷ xs) (more p ps) e =
    of ((party_key x.by =? party_key by) && same_numbers (message_key x.what) (message_key what)) refl e
    (sent_has P by what xs ps)
  where
    of : (b : Bool) → ((party_key x.by =? party_key by) && same_numbers (message_key x.what) (message_key what)) ≡ b
        → (b || some (λ sent. (party_key sent.by =? party_key by) && same_numbers (message_key sent.what) (message_key what))
        xs) ≡ true
        → (was_sent xs by what ≡ true → (t : ℕ) × P (record { by = by; what = what; time = t }))
        → (t : ℕ) × P (record { by = by; what = what; time = t })
    of true b e f =
        let k = both_hold (party_key x.by =? party_key by) (same_numbers (message_key x.what) (message_key what)) b in
        let who = same_party x.by by (eqb-true (party_key x.by) (party_key by) k.0) in
        let said = same_what x.what what k.1 in
        (x.time, rw (who, said) at p)
    of false b e f = f e

-- an answer posts nothing, or the message that it sends
pub posted_either : (Q : List Sent → Type 0) (by : Party) (g : ℕ) (answer : Said Spoken) (history : List Sent) → Q history
    → ((m : Message) → sent answer ≡ message m → Q (record { by = by; what = m; time = g } ∷ history))
    → Q (posted by g answer history)
unfolding posted sent
posted_either Q by g (refusal k values) history same new = same
posted_either Q by g (gives (giving (message m) words)) history same new = new m refl
posted_either Q by g (gives (giving nothing words)) history same new = same

-- a new message has it too
pub posted_all : (P : Sent → Type 0) (by : Party) (g : ℕ) (answer : Said Spoken) (history : List Sent) → All P history
    → ((m : Message) → sent answer ≡ message m → P (record { by = by; what = m; time = g }))
    → All P (posted by g answer history)
posted_all P by g answer history a f = posted_either (All P) by g answer history a (λ m q. more (f m q) a)
