-- A line that is written into the part of the room behind its first two bytes, and then the 0 with its tab before it.
use Prim.Native.Nat.{ℕ, suc, ◌+◌, ◌-◌, ◌≤◌, ◌<◌}
use native.Mathlib.Omega.{arith}
use Rattle.std.specs.Prelude.{if◌then◌else◌}
use mathlib.Core.Path.{◌≡◌, refl, sym, ap, ◌∙◌}
use mathlib.Core.Bool.{Bool, true, false}
use mathlib.Core.List.{List, [], ◌∷◌, ◌++◌}
use lib.ListN.{length, take, drop, length-drop}
use borrow.Author.Tests.{ltb-true, ltb-false}
use borrow.Rule.Slice.PartMut.{put_mid}
use Rattle.words.specs.Tests.{◌<?◌}
use Rattle.words.specs.Lists.{text}
use Rattle.words.specs.Said.{refused}
use Rattle.words.specs.Said.Said.{gives}
use Rattle.refusals.proofs.Results.{same_given, same_refused, given_or_refused}
use Rattle.fields.specs.Places.{put_at, next_place}
use Rattle.fields.proofs.Rooms.{part_from_lem, put_part, put_nothing, put_fits, next_fits, length_put}
use Rattle.lines_rules.specs.Writing.{fitting, filled}
use Rattle.lines_rules.proofs.Lines.{fits_said, fits_room, short_said, short_room}

-- what stands behind the first two bytes, as the code takes it
abbrev pub behind_two : List ℕ → List ℕ
behind_two room = take (length room - 2) (drop 2 room)

-- a line that was written fits
gave : (line room : List ℕ) (n : ℕ) → gives n ≡ fitting line room → (length line ≤ length room) × (n ≡ length line)
unfolding fitting
gave line room n e = by (length room <? length line) refl e
  where
    by : (t : Bool) → (length room <? length line) ≡ t → gives n ≡ (if t then refused 10 else gives (length line))
        → (length line ≤ length room) × (n ≡ length line)
    by true t e = given_or_refused e
    by false t e = (ltb-false (length room) (length line) t, same_given e)

-- and one that was refused does not
refused_it : (line room : List ℕ) (k : ℕ) → refused k ≡ fitting line room → (length room < length line) × (k ≡ 10)
unfolding fitting
refused_it line room k e = by (length room <? length line) refl e
  where
    by : (t : Bool) → (length room <? length line) ≡ t → refused k ≡ (if t then refused 10 else gives (length line))
        → (length room < length line) × (k ≡ 10)
    by true t e = (ltb-true (length room) (length line) t, same_refused e)
    by false t e = given_or_refused (sym e)

part_length : (room : List ℕ) → length (behind_two room) ≡ length room - 2
part_length room = rw (part_from_lem 2 room) (length-drop 2 room)

-- the part put back as it was
put_back : (room : List ℕ) → 2 ≤ length room → put_mid 2 (length room - 2) room (behind_two room) ≡ room
put_back room h = put_part room 2 [] (omega arith) ∙ sym (put_nothing room 2 h)

-- the line, and the 0 before it
put_zero : (room line : List ℕ) → 2 + length line ≤ length room
    → put_at (put_at room 2 line) 0 (text "0\t") ≡ filled (text "0\t" ++ line) room
put_zero [] line h = absurd (let z : ⊥ = omega arith in z)
put_zero (x ∷ []) line h = absurd (let z : ⊥ = omega arith in z)
put_zero (x ∷ (y ∷ room)) line h =
    let two : 2 + length line ≡ suc (suc (length line)) = omega arith in
    rw (put_fits (x ∷ (y ∷ room)) 2 line h, two)
    (put_fits (x ∷ (y ∷ (line ++ drop (length line) room))) 0 (text "0\t") (omega arith))
    ∙ sym (fits_room (text "0\t" ++ line) (x ∷ (y ∷ room)) (omega arith))

-- what the code has when the line has been written and the 0 before it: `part` is what the line left of the part, `l` the room
pub record Written (room line l : List ℕ) (at n : ℕ) : Type 0 where
  pub sized : at + n ≤ length room
  pub said : gives (at + n) ≡ fitting (text "0\t" ++ line) room
  pub holds : l ≡ filled (text "0\t" ++ line) room

pub written : (room line part : List ℕ) {l : List ℕ} {at n : ℕ} → 2 ≤ length room
    → gives n ≡ fitting line (behind_two room) → part ≡ filled line (behind_two room)
    → at ≡ next_place (put_mid 2 (length room - 2) room part) 0 (text "0\t")
    → l ≡ put_at (put_mid 2 (length room - 2) room part) 0 (text "0\t") → Written room line l at n
written room line part {at = at} {n = n} h e f p q =
    let one = gave line (behind_two room) n e in
    let fits : 2 + length line ≤ length room = omega (arith, one.0, part_length room) in
    let placed : put_mid 2 (length room - 2) room part ≡ put_at room 2 line =
    ap (put_mid 2 (length room - 2) room) (f ∙ fits_room line (behind_two room) one.0) ∙ put_part room 2 line fits in
    let two : at ≡ 2 =
    p ∙ rw placed (next_fits (put_at room 2 line) 0 (text "0\t") (rw (length_put room 2 line) h)) in
    let whole : at + n ≡ length (text "0\t" ++ line) = omega (arith, one.1, two) in
    record {
      sized = omega (arith, whole);
      said = ap gives whole ∙ sym (fits_said (text "0\t" ++ line) room (omega arith));
      holds = q ∙ rw placed (put_zero room line fits);
    }

-- and what it has when the line was refused
pub refused_behind : (room line part : List ℕ) (k : ℕ) → 2 ≤ length room
    → refused k ≡ fitting line (behind_two room) → part ≡ filled line (behind_two room)
    → (refused k ≡ fitting (text "0\t" ++ line) room)
    × (put_mid 2 (length room - 2) room part ≡ filled (text "0\t" ++ line) room)
refused_behind room line part k h e f =
    let no = refused_it line (behind_two room) k e in
    let short : length room < length (text "0\t" ++ line) = omega (arith, no.0, part_length room) in (
      ap refused no.1 ∙ sym (short_said (text "0\t" ++ line) room short),
      ap (put_mid 2 (length room - 2) room) (f ∙ short_room line (behind_two room) no.0) ∙ put_back room h
          ∙ sym (short_room (text "0\t" ++ line) room short),
    )
