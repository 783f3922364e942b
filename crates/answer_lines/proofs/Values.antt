-- A value is put behind what was put before it.
use Prim.Native.Nat.{ℕ, ◌+◌, ◌≤◌}
use native.Mathlib.Omega.{arith}
use mathlib.Core.Path.{◌≡◌, sym, ap, ◌∙◌}
use mathlib.Core.List.{List, [], ◌++◌}
use lib.ListN.{length, length-append, length-drop}
use Rattle.words.specs.Lists.{text}
use Rattle.decimals.specs.Decimals.{digits}
use Rattle.fields.specs.Places.{put_at, next_place}
use Rattle.fields.proofs.Rooms.{Put, put_none, put_then, next_fits}
use Rattle.answer_lines.specs.Parts.{value_part}

pub put_sized : (done room : List ℕ) {l : List ℕ} {at : ℕ} → Put done room l at → length done ≤ length room → length l ≡ length room
put_sized done room p h = ap length p.holds ∙ simp (length-append, length-drop) (omega arith)

pub put_inside : (done room part : List ℕ) {l : List ℕ} {at : ℕ} → Put done room l at → length done + length part ≤ length room
    → at + length part ≤ length l
put_inside done room part p h = omega (arith, p.place, put_sized done room p (omega arith))

pub part_then : (done room part : List ℕ) {l l' : List ℕ} {at at' : ℕ} → Put done room l at
    → length done + length part ≤ length room
    → at' ≡ at + length part → l' ≡ put_at l at part → Put (done ++ part) room l' at'
part_then done room part {l = l} {at = at} p h e f =
    put_then done room part p h (e ∙ sym (next_fits l at part (put_inside done room part p h))) f

-- The line of accepted settings: what was put when the code has gone so far, W being the window and a, b, d the slacks.
module _ (W a b d : ℕ) where
  abbrev pub zero : List ℕ
  zero = text "0"

  abbrev pub to_W : List ℕ
  to_W = zero ++ value_part W

  abbrev pub to_a : List ℕ
  to_a = to_W ++ value_part a

  abbrev pub to_b : List ℕ
  to_b = to_a ++ value_part b

  abbrev pub to_c : List ℕ
  to_c = to_b ++ value_part d

  abbrev pub whole : List ℕ
  whole = to_c ++ text "\n"

  pub whole_length : length whole ≡ length (digits W) + length (digits a) + length (digits b) + length (digits d) + 6
  whole_length = simp length-append (omega arith)

  abbrev pub Enough : List ℕ → Type 0
  Enough room = length (digits W) + length (digits a) + length (digits b) + length (digits d) + 6 ≤ length room

  pub enough : (room : List ℕ) {k l m n : ℕ} → k ≡ length (digits W) → l ≡ length (digits a) → m ≡ length (digits b)
      → n ≡ length (digits d)
      → k + l + m + n + 6 ≤ length room → Enough room
  enough room e f g h fits = omega (arith, e, f, g, h, fits)

  -- each part behind the ones before it, where all of them fit, and the room that is left for the next
  module _ (room : List ℕ) (enough : Enough room) where
    module _ {l : List ℕ} {at : ℕ} where
      pub room_for_W : Put zero room l at → at + length (value_part W) ≤ length l
      room_for_W p = put_inside zero room (value_part W) p (simp length-append (omega arith))

      pub room_for_a : Put to_W room l at → at + length (value_part a) ≤ length l
      room_for_a p = put_inside to_W room (value_part a) p (simp length-append (omega arith))

      pub room_for_b : Put to_a room l at → at + length (value_part b) ≤ length l
      room_for_b p = put_inside to_a room (value_part b) p (simp length-append (omega arith))

      pub room_for_c : Put to_b room l at → at + length (value_part d) ≤ length l
      room_for_c p = put_inside to_b room (value_part d) p (simp length-append (omega arith))

      pub put_zero : at ≡ next_place room 0 (text "0") → l ≡ put_at room 0 (text "0") → Put zero room l at
      put_zero e f = put_then [] room (text "0") (put_none room) (omega arith) e f

    module _ {l l' : List ℕ} {at at' : ℕ} where
      pub put_W : Put zero room l at → at' ≡ at + length (value_part W) → l' ≡ put_at l at (value_part W) → Put to_W room l' at'
      put_W p e f = part_then zero room (value_part W) p (simp length-append (omega arith)) e f

      pub put_a : Put to_W room l at → at' ≡ at + length (value_part a) → l' ≡ put_at l at (value_part a) → Put to_a room l' at'
      put_a p e f = part_then to_W room (value_part a) p (simp length-append (omega arith)) e f

      pub put_b : Put to_a room l at → at' ≡ at + length (value_part b) → l' ≡ put_at l at (value_part b) → Put to_b room l' at'
      put_b p e f = part_then to_a room (value_part b) p (simp length-append (omega arith)) e f

      pub put_c : Put to_b room l at → at' ≡ at + length (value_part d) → l' ≡ put_at l at (value_part d) → Put to_c room l' at'
      put_c p e f = part_then to_b room (value_part d) p (simp length-append (omega arith)) e f

      pub put_end : Put to_c room l at → at' ≡ next_place l at (text "\n") → l' ≡ put_at l at (text "\n") → Put whole room l' at'
      put_end p e f = put_then to_c room (text "\n") p (simp length-append (omega arith)) e f

    -- the same from the first part on
    module _ {l₀ l₁ : List ℕ} {at₀ at₁ : ℕ} (e₀ : at₀ ≡ next_place room 0 (text "0")) (f₀ : l₀ ≡ put_at room 0 (text "0"))
        (e₁ : at₁ ≡ at₀ + length (value_part W))
        (f₁ : l₁ ≡ put_at l₀ at₀ (value_part W)) where
      pub W_put : Put to_W room l₁ at₁
      W_put = put_W (put_zero e₀ f₀) e₁ f₁

      module _ {l₂ : List ℕ} {at₂ : ℕ} (e₂ : at₂ ≡ at₁ + length (value_part a)) (f₂ : l₂ ≡ put_at l₁ at₁ (value_part a)) where
        pub a_put : Put to_a room l₂ at₂
        a_put = put_a W_put e₂ f₂

        module _ {l₃ : List ℕ} {at₃ : ℕ} (e₃ : at₃ ≡ at₂ + length (value_part b)) (f₃ : l₃ ≡ put_at l₂ at₂ (value_part b)) where
          pub b_put : Put to_b room l₃ at₃
          b_put = put_b a_put e₃ f₃
