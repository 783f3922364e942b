-- `standby_form::kept_marks` meets its contract: what `map` returned is the list of the marks, place by place.
use native.Mathlib.Omega.{arith}
use Rattle.std.proofs.Common.{rules, ◌≡◌, length}
use mathlib.Core.Bool.{false}
use lib.ListN.{get_or-map, length-map}
use Rattle.std.proofs.lemmas.List.{ext_get_or}
use Rattle.standby_rules.specs.declared.Place.{Place}
use Rattle.standby_rules.specs.Standby.{unused, kept_marks}
use Rattle.standby_form.proofs.kept_marks.Goals as goal

pub returns : goal.returns
returns c =
    let places = c.args.places in
    let sixteen : length places ≡ 16 = search rules in
    let as_many : length c.map.result ≡ 16 = c.map.ensures.items.long in
    ext_get_or false c.map.result (kept_marks places) (simp length-map (omega arith))
    (λ i h.
    let called = (c.map.ensures.items.at i unused false (omega arith)).2 in
    rw (get_or-map (λ (place : Place). place.kept) places i unused) (search rules))
