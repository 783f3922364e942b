-- Reading and writing message lines undo one another.
use Rattle.std.specs.Prelude.{if◌then◌else◌, Result, Ok, Err}
use Prim.Native.Nat.{ℕ, zero, suc, ◌^◌, ◌≤◌, ◌<◌}
use native.Mathlib.Omega.{arith}
use mathlib.Core.Path.{◌≡◌, refl, sym, ap, ◌∙◌}
use mathlib.Core.Bool.{Bool, true, false, ◌&&◌, not}
use mathlib.Core.List.{List, [], ◌∷◌, ◌++◌, append_assoc, append-nil}
use lib.ListN.{length, drop, drop_of_length-le}
use lib.Seq.{take-append_seam, drop-append_seam}
use borrow.Author.Tests.{le-leb, leb-true, eqb-true}
use Rattle.words.specs.Tests.{◌<?◌, ◌≤?◌, ◌=?◌}
use Rattle.words.specs.Lists.{text}
use Rattle.words.proofs.Booleans.{not_both, both_hold}
use Rattle.words.specs.Said.{refused}
use Rattle.words.specs.Said.Said.{gives}
use Rattle.decimals.specs.declared.Number.{Number}
use Rattle.decimals.specs.declared.NoNumber.{NoNumber}
use Rattle.decimals.specs.Decimals.{digits, number, no_number, number_at}
use Rattle.fields.specs.Places.{agree, begins, is_exactly}
use Rattle.decimals.proofs.Reading.{digits_read, read_digits}
use Rattle.fields.proofs.Rooms.{front}
use Rattle.refusals.proofs.Results.{same_given, given_or_refused}
use Rattle.messages.specs.declared.Status.{Status}
use Rattle.messages.specs.declared.Status.TheVariants.{Alive, Dead}
use Rattle.messages.specs.declared.Message.{Message}
use Rattle.messages.specs.declared.Message.TheVariants.{LeaseRequest, LeaseGrant, Check, CheckAck}
use Rattle.messages.specs.Messages.{top_counter, top_reading, fields_of, status_word, has_form}
use Rattle.lines_rules.specs.Reading.{ended, only_number, one_of, read_ack_status, status_behind, read_ack_counter, counter_behind, read_ack, read_line}
use Rattle.lines_rules.specs.Writing.{fitting, filled, bytes_of, joined, line_of, write_said, write_room}
use Rattle.lines_rules.specs.Claims.{WrittenIsRead, ReadIsWritten}
use Rattle.lines_rules.proofs.Lines.{fits_said, fits_room, request_line, grant_line, check_line}

-- no place is a number
no_value : {A : Type 0} {e : NoNumber} {n : Number} → Err e ≡ Ok n → A
no_value e = let z : ◌≡◌ {A = ℕ} 0 1 = cc in absurd (let w : 0 ≡ 1 = z in omega arith)

-- ---- what is written is read

-- a number within its bounds, up to the line feed
number_line : (n : ℕ) (allowed : Bool) (greatest : ℕ) → greatest < 2 ^ 64 → n ≤ greatest → (n ≡ 0 → allowed ≡ true)
    → only_number allowed greatest (digits n ++ (10 ∷ [])) ≡ number n (length (digits n))
unfolding only_number ended is_exactly begins agree
number_line n allowed greatest b m z =
    rw (digits_read n allowed greatest (10 ∷ []) (omega arith) m z refl, drop-append_seam (digits n) (10 ∷ []))

counter_line : (cnt : ℕ) → ((1 ≤? cnt) && (cnt ≤? top_counter)) ≡ true
    → only_number false top_counter (digits cnt ++ (10 ∷ [])) ≡ number cnt (length (digits cnt))
counter_line cnt h =
    let p = both_hold (1 ≤? cnt) (cnt ≤? top_counter) h in
    let least = leb-true 1 cnt p.0 in
    number_line cnt false top_counter (omega arith) (leb-true cnt top_counter p.1) (λ z. absurd (omega (arith, least, z)))

-- an ack, from its ts on
ack_line : (ts cnt : ℕ) (status : List ℕ) (m : Message) → ((ts ≤? top_reading) && (cnt ≤? top_counter)) ≡ true
    → read_ack_status ts cnt (9 ∷ status) ≡ gives m
    → read_ack (digits ts ++ (9 ∷ (digits cnt ++ (9 ∷ status)))) ≡ gives m
unfolding read_ack counter_behind read_ack_counter status_behind begins agree
ack_line ts cnt status m h e =
    let p = both_hold (ts ≤? top_reading) (cnt ≤? top_counter) h in
    let r = leb-true ts top_reading p.0 in
    let c = leb-true cnt top_counter p.1 in
    rw (
      digits_read ts true top_reading (9 ∷ (digits cnt ++ (9 ∷ status))) (omega arith) r (λ z. refl) refl,
      drop-append_seam (digits ts) (9 ∷ (digits cnt ++ (9 ∷ status))),
      digits_read cnt true top_counter (9 ∷ status) (omega arith) c (λ z. refl) refl,
      drop-append_seam (digits cnt) (9 ∷ status),
    )
    e

pub line_read : (m : Message) → has_form m ≡ true → read_line (line_of m) ≡ gives m
unfolding read_line begins agree has_form line_of joined bytes_of fields_of status_word read_ack_status is_exactly
line_read (LeaseRequest cnt) h = rw (counter_line cnt h)
line_read (LeaseGrant cnt) h = rw (counter_line cnt h)
line_read (Check ts) h = rw (number_line ts true top_reading (omega arith) (leb-true ts top_reading h) (λ z. refl))
line_read (CheckAck ts cnt Alive) h = ack_line ts cnt (text "Alive\n") (CheckAck ts cnt Alive) h refl
line_read (CheckAck ts cnt Dead) h = ack_line ts cnt (text "Dead\n") (CheckAck ts cnt Dead) h refl

-- ---- what is read is what is written

exactly : (word s : List ℕ) → is_exactly word s ≡ true → s ≡ word
unfolding is_exactly
exactly word s e =
    let p = both_hold (begins word s) (length s =? length word) e in
    let l = eqb-true (length s) (length word) p.1 in
    front word s p.0 ∙ rw (drop_of_length-le s {i = length word} (omega arith), append-nil)

-- a number that fills its part up to the line feed
record Alone (allowed : Bool) (greatest : ℕ) (s : List ℕ) (n : ℕ) : Type 0 where
  line : s ≡ digits n ++ (10 ∷ [])
  most : n ≤ greatest
  nonzero : n ≡ 0 → allowed ≡ true

alone : (allowed : Bool) (greatest : ℕ) → greatest < 2 ^ 64 → (s : List ℕ) (n : Number) → only_number allowed greatest s ≡ Ok n
    → Alone allowed greatest s n.value
unfolding only_number ended
alone allowed greatest b s n e = of (number_at allowed greatest s) refl e
  where
    feed : (v : Number) (t : Bool) → is_exactly (text "\n") (drop v.length s) ≡ t → number_at allowed greatest s ≡ Ok v
        → (if t then Ok v else no_number v.length) ≡ Ok n → Alone allowed greatest s n.value
    feed v true t q e =
        let r = read_digits allowed greatest s v.value v.length b q in
        let both : v ≡ n = cc in
        let same : v.value ≡ n.value = ap (λ (x : Number). x.value) both in
        record {
          line = r.front ∙ rw (exactly (text "\n") (drop v.length s) t, same);
          most = omega (arith, r.most, same);
          nonzero = λ z. r.nonzero (same ∙ z);
        }
    feed v false t q e = no_value e

    of : (x : Result Number NoNumber) → number_at allowed greatest s ≡ x → ended s x ≡ Ok n → Alone allowed greatest s n.value
    of (Ok v) q e = feed v (is_exactly (text "\n") (drop v.length s)) refl q e
    of (Err place) q e = no_value e

pub record Formed (s : List ℕ) (m : Message) : Type 0 where
  pub form : has_form m ≡ true
  pub line : s ≡ line_of m

-- a message of one number
one_formed : (word : List ℕ) (make : ℕ → Message) (allowed : Bool) (greatest : ℕ) → greatest < 2 ^ 64
    → ((n : ℕ) → line_of (make n) ≡ word ++ digits n ++ (10 ∷ []))
    → ((n : ℕ) → n ≤ greatest → (n ≡ 0 → allowed ≡ true) → has_form (make n) ≡ true)
    → (s : List ℕ) (m : Message) → begins word s ≡ true
    → one_of make (only_number allowed greatest (drop (length word) s)) ≡ gives m → Formed s m
one_formed word make allowed greatest b lines forms s m w e = of (only_number allowed greatest (drop (length word) s)) refl e
  where
    of : (x : Result Number NoNumber) → only_number allowed greatest (drop (length word) s) ≡ x → one_of make x ≡ gives m → Formed s m
    of (Ok v) q e =
        let a = alone allowed greatest b (drop (length word) s) v q in
        let same : make v.value ≡ m = same_given e in
        record {
          form = rw same at (forms v.value a.most a.nonzero);
          line = rw (← same, lines v.value, append_assoc, ← a.line) (front word s w);
        }
    of (Err place) q e = given_or_refused (sym e)

counter_forms : (n : ℕ) → n ≤ top_counter → (n ≡ 0 → false ≡ true) → ((1 ≤? n) && (n ≤? top_counter)) ≡ true
counter_forms n h z = rw (le-leb 1 n (positive n z), le-leb n top_counter h)
  where
    positive : (n : ℕ) → (n ≡ 0 → false ≡ true) → 1 ≤ n
    positive zero z = absurd (not_both (z refl) refl)
    positive (suc n) z = omega arith

-- an ack, from its ts on
ack_status : (ts cnt : ℕ) (s : List ℕ) (m : Message) → ts ≤ top_reading → cnt ≤ top_counter → read_ack_status ts cnt s ≡ gives m
    → (has_form m ≡ true) × (text "CHECK-ACK\t" ++ (digits ts ++ (9 ∷ (digits cnt ++ s))) ≡ line_of m)
unfolding read_ack_status has_form line_of joined bytes_of fields_of status_word
ack_status ts cnt s m r c e =
    by (is_exactly (text "\tAlive\n") s) refl (is_exactly (text "\tDead\n") s) refl e
  where
    told : (status : Status) → s ≡ 9 ∷ (bytes_of (status_word status) ++ (10 ∷ [])) → CheckAck ts cnt status ≡ m
        → (has_form m ≡ true) × (text "CHECK-ACK\t" ++ (digits ts ++ (9 ∷ (digits cnt ++ s))) ≡ line_of m)
    told status q same = rw (← same, q, le-leb ts top_reading r, le-leb cnt top_counter c) (refl, refl)

    by : (a : Bool) → is_exactly (text "\tAlive\n") s ≡ a → (d : Bool) → is_exactly (text "\tDead\n") s ≡ d
        → (if a then gives (CheckAck ts cnt Alive) else (if d then gives (CheckAck ts cnt Dead) else refused 9)) ≡ gives m
        → (has_form m ≡ true) × (text "CHECK-ACK\t" ++ (digits ts ++ (9 ∷ (digits cnt ++ s))) ≡ line_of m)
    by true p d q e = told Alive (exactly (text "\tAlive\n") s p) (same_given e)
    by false p true q e = told Dead (exactly (text "\tDead\n") s q) (same_given e)
    by false p false q e = given_or_refused (sym e)

ack_counter : (ts : ℕ) (s : List ℕ) (m : Message) → ts ≤ top_reading → read_ack_counter ts s ≡ gives m
    → (has_form m ≡ true) × (text "CHECK-ACK\t" ++ (digits ts ++ s) ≡ line_of m)
unfolding read_ack_counter status_behind
ack_counter ts s m r e = by (begins (text "\t") s) refl e
  where
    of : s ≡ 9 ∷ drop 1 s → (x : Result Number NoNumber) → number_at true top_counter (drop 1 s) ≡ x → status_behind ts (drop 1 s) x ≡ gives m
        → (has_form m ≡ true) × (text "CHECK-ACK\t" ++ (digits ts ++ s) ≡ line_of m)
    of t (Ok v) q e =
        let n = read_digits true top_counter (drop 1 s) v.value v.length (omega arith) q in
        let a = ack_status ts v.value (drop v.length (drop 1 s)) m r n.most e in
        (a.0, ap (λ (l : List ℕ). text "CHECK-ACK\t" ++ (digits ts ++ l)) (t ∙ ap (λ (l : List ℕ). 9 ∷ l) n.front) ∙ a.1)
    of t (Err place) q e = given_or_refused (sym e)

    by : (t : Bool) → begins (text "\t") s ≡ t
        → (if t then status_behind ts (drop 1 s) (number_at true top_counter (drop 1 s)) else refused 9) ≡ gives m
        → (has_form m ≡ true) × (text "CHECK-ACK\t" ++ (digits ts ++ s) ≡ line_of m)
    by true t e = of (front (text "\t") s t) (number_at true top_counter (drop 1 s)) refl e
    by false t e = given_or_refused (sym e)

ack_formed : (s : List ℕ) (m : Message) → begins (text "CHECK-ACK\t") s ≡ true → read_ack (drop 10 s) ≡ gives m → Formed s m
unfolding read_ack counter_behind
ack_formed s m w e = of (number_at true top_reading (drop 10 s)) refl e
  where
    of : (x : Result Number NoNumber) → number_at true top_reading (drop 10 s) ≡ x → counter_behind (drop 10 s) x ≡ gives m → Formed s m
    of (Ok v) q e =
        let n = read_digits true top_reading (drop 10 s) v.value v.length (omega arith) q in
        let a = ack_counter v.value (drop v.length (drop 10 s)) m n.most e in
        record {
          form = a.0;
          line = front (text "CHECK-ACK\t") s w ∙ ap (λ (l : List ℕ). text "CHECK-ACK\t" ++ l) n.front ∙ a.1;
        }
    of (Err place) q e = given_or_refused (sym e)

pub read_formed : (s : List ℕ) (m : Message) → read_line s ≡ gives m → Formed s m
unfolding read_line has_form
read_formed s m e =
    by (begins (text "LEASE-REQUEST\t") s) refl (begins (text "LEASE-GRANT\t") s) refl (begins (text "CHECK\t") s) refl
    (begins (text "CHECK-ACK\t") s) refl e
  where
    by : (r : Bool) → begins (text "LEASE-REQUEST\t") s ≡ r → (g : Bool) → begins (text "LEASE-GRANT\t") s ≡ g → (c : Bool)
        → begins (text "CHECK\t") s ≡ c
        → (a : Bool) → begins (text "CHECK-ACK\t") s ≡ a
        → (if r then one_of LeaseRequest (only_number false top_counter (drop 14 s))
        else (if g then one_of LeaseGrant (only_number false top_counter (drop 12 s))
        else (if c then one_of Check (only_number true top_reading (drop 6 s))
        else (if a then read_ack (drop 10 s)
        else refused 9))))
        ≡ gives m
        → Formed s m
    by true p g q c u a v e =
        one_formed (text "LEASE-REQUEST\t") LeaseRequest false top_counter (omega arith) request_line counter_forms s m p e
    by false p true q c u a v e =
        one_formed (text "LEASE-GRANT\t") LeaseGrant false top_counter (omega arith) grant_line counter_forms s m q e
    by false p false q true u a v e =
        one_formed (text "CHECK\t") Check true top_reading (omega arith) check_line (λ n h z. le-leb n top_reading h) s m u e
    by false p false q false u true v e = ack_formed s m v e
    by false p false q false u false v e = given_or_refused (sym e)

-- ---- the claims

-- what an answer of the writer says of message and room
written : (m : Message) (room : List ℕ) (k : ℕ) → write_said m room ≡ gives k
    → (has_form m ≡ true) × (k ≡ length (line_of m)) × (write_room m room ≡ line_of m ++ drop (length (line_of m)) room)
unfolding write_said write_room fitting filled
written m room k e = by (has_form m) refl (length room <? length (line_of m)) refl e
  where
    by : (f : Bool) → has_form m ≡ f → (t : Bool) → (length room <? length (line_of m)) ≡ t
        → (if not f then refused 9 else (if t then refused 10 else gives (length (line_of m)))) ≡ gives k
        → (has_form m ≡ true) × (k ≡ length (line_of m)) × (write_room m room ≡ line_of m ++ drop (length (line_of m)) room)
    by true f true t e = given_or_refused (sym e)
    by true f false t e = (f, sym (same_given e), rw (f, t))
    by false f t q e = given_or_refused (sym e)

pub written_is_read_lem : WrittenIsRead
written_is_read_lem m room k e =
    let w = written m room k e in
    rw (w.1, w.2, take-append_seam (line_of m) (drop (length (line_of m)) room)) (line_read m w.0)

pub read_is_written_lem : ReadIsWritten
unfolding write_said write_room
read_is_written_lem s m e room h =
    let f = read_formed s m e in
    let l : length (line_of m) ≤ length room = rw f.line at h in
    rw (f.form, f.line) (fits_said (line_of m) room l, fits_room (line_of m) room l)
