-- What one write took stands behind what the earlier ones took.
use Rattle.std.proofs.Common.{◌≡◌, ℕ, ◌-◌, ◌≤◌, List, ◌++◌, rules, arith, length, take, drop, append_assoc}
use Rattle.std.proofs.lemmas.Grind.{common_steps}
use Rattle.std.proofs.KnownBytes.{Appends-trans}
use Rattle.streams.proofs.write_whole.Goals as goal

-- the front of the rest, put behind what is passed
pass : (passed rest all : List ℕ) (n : ℕ) → n ≤ length rest → passed ++ rest ≡ all
    → (passed ++ take n rest) ++ take (length rest - n) (drop n rest) ≡ all
pass passed rest all n h e = grind (arith, common_steps, append_assoc {A = ℕ})

pub loop-rest-preserved : goal.loop-rest-preserved
loop-rest-preserved g c =
    let rest = c.loop-rest.rest.now in
    let taken = c.in_ok-taken.taken in
    let before = c.loop-rest.invariant in
    let within : taken ≤ length rest = search rules in
    (before.0 ++ take taken rest, pass before.0 rest _ taken within before.1, Appends-trans _ _ _ _ _ before.2 c.in_ok-taken.ensures.bytes)
