-- A text that is shorter than the word does not have it; of one that is not, the bytes that may be the word's are as many as it has.
use Rattle.std.proofs.Common.{◌≡◌, ◌+◌, ◌-◌, sym, arith, length, take, drop, length-take, length-drop}
use Rattle.lists.proofs.ByPlaces.{same_lengths}
use Rattle.json_tokens.proofs.has_word.Goals as goal

pub returns-then-s-at : goal.returns-then-s-at
returns-then-s-at c =
    let a = c.args in
    sym (same_lengths a.word.now (take (length a.word.now) (drop a.at a.s.now))
    (λ e. let short = c.if-s-at.true in omega (arith, simp (length-take, length-drop) at e)))

pub returns : goal.returns
returns c =
    let a = c.args in
    let many : a.at + length a.word.now - a.at ≡ length a.word.now = omega arith in
    rw many at c.is_same.ensures
