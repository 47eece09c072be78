-- Each turn puts one byte more before the zeros.
use Rattle.std.proofs.Common.{◌-◌, ◌≡◌, sym, ◌∙◌, arith, length, take, drop, length-take, length-drop, get_or-drop}
use Rattle.json_rules.specs.Members.{id_length}
use Rattle.json_reading.proofs.Fillings.{filled_next}
use Rattle.json_reading.proofs.id_of.Goals as goal

pub loop-i-preserved : goal.loop-i-preserved
loop-i-preserved c =
    let a = c.args in
    let long : length (drop a.from a.s.now) ≡ length a.s.now - a.from = length-drop a.from a.s.now in
    filled_next (drop a.from a.s.now) id_length c.loop-i.i 0 _ c.loop-i.id (omega arith) (omega arith) c.loop-i.invariant
    (sym (get_or-drop a.from a.s.now c.loop-i.i 0))

pub returns : goal.returns
returns c =
    let a = c.args in
    let whole : c.loop-i.i ≡ a.len = omega arith in
    let long : length (take a.len (drop a.from a.s.now)) ≡ a.len = simp (length-take, length-drop) (omega arith) in
    c.loop-i.invariant ∙ rw (whole, long)
