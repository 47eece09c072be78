-- A reading that failed stays; the first word, the second, or neither.
use Rattle.std.proofs.Common.{◌+◌, sym, ◌∙◌, arith, length}
use Rattle.lines.proofs.Walks.{begins_within, word_first, word_second, word_none}
use Rattle.lines.proofs.Cursors.{on_within, word_behind, word_fault}
use Rattle.lines.proofs.read_word.Goals as goal

pub returns-then-has_key : goal.returns-then-has_key
returns-then-has_key c =
    let a = c.args in
    let on = sym c.goes_on.ensures ∙ c.if-not-goes_on.false in
    let first = sym c.has_key.ensures ∙ c.if-has_key.true in
    word_behind a.s.now a.c a.first.now a.one a.second.now a.other on a.one (a.c.at + length a.first.now) _
    (word_first a.first.now a.one a.second.now a.other a.s.now a.c.at first)
    (begins_within _ _ _ (on_within _ a.c on) first) (omega (arith, c.requires.0)) c.behind.ensures

pub returns-then-has_key-2 : goal.returns-then-has_key-2
returns-then-has_key-2 c =
    let a = c.args in
    let on = sym c.goes_on.ensures ∙ c.if-not-goes_on.false in
    let second = sym c.has_key-2.ensures ∙ c.if-has_key-2.true in
    word_behind a.s.now a.c a.first.now a.one a.second.now a.other on a.other (a.c.at + length a.second.now) _
    (word_second a.first.now a.one a.second.now a.other a.s.now a.c.at (sym c.has_key.ensures ∙ c.if-has_key.false) second)
    (begins_within _ _ _ (on_within _ a.c on) second) (omega (arith, c.requires.1)) c.behind-then-has_key-2.ensures

pub returns : goal.returns
returns c =
    let a = c.args in
    word_fault a.s.now a.c a.first.now a.one a.second.now a.other (sym c.goes_on.ensures ∙ c.if-not-goes_on.false) _
    (word_none a.first.now a.one a.second.now a.other a.s.now a.c.at (sym c.has_key.ensures ∙ c.if-has_key.false)
    (sym c.has_key-2.ensures ∙ c.if-has_key-2.false)) c.failing.ensures
