-- `claim_judging::over::drawn_from` meets its contract: each answer by the tests that led to it. Assumes nothing.
use Rattle.std.proofs.Common.{◌≡◌, sym, ◌∙◌, true, false, eq-eqb, ne_eqb, eqb, leb}
use mathlib.Core.Bool.{and-true}
use Rattle.rights.specs.Rights.{delegating, has_right, has_rights}
use Rattle.soundness_rules.specs.Sound.{drawn_from}
use Rattle.claim_judging.proofs.Chains.{passes, fails}
use Rattle.claim_judging.proofs.over.drawn_from.Goals as goal

pub returns-then-p-c : goal.returns-then-p-c
unfolding drawn_from
returns-then-p-c c =
    let start = c.args in
    let held : eqb start.p.holder start.c.grantor ≡ false = ne_eqb _ _ c.if-p-c.true in
    sym (fails _ held)

pub returns-then-p-c-2 : goal.returns-then-p-c-2
unfolding drawn_from
returns-then-p-c-2 c =
    let start = c.args in
    let held : eqb start.p.holder start.c.grantor ≡ true = eq-eqb _ _ c.if-p-c.false in
    let same : eqb start.p.resource start.c.resource ≡ false = ne_eqb _ _ c.if-p-c-2.true in
    sym (passes held ∙ fails _ same)

pub returns-then-not-has : goal.returns-then-not-has
unfolding drawn_from
returns-then-not-has c =
    let start = c.args in
    let held : eqb start.p.holder start.c.grantor ≡ true = eq-eqb _ _ c.if-p-c.false in
    let same : eqb start.p.resource start.c.resource ≡ true = eq-eqb _ _ c.if-p-c-2.false in
    let delegates : has_right start.p.rights delegating ≡ false = sym c.has.ensures ∙ c.if-not-has.true in
    sym (passes held ∙ passes same ∙ fails _ delegates)

pub returns-then-not-has_all : goal.returns-then-not-has_all
unfolding drawn_from
returns-then-not-has_all c =
    let start = c.args in
    let held : eqb start.p.holder start.c.grantor ≡ true = eq-eqb _ _ c.if-p-c.false in
    let same : eqb start.p.resource start.c.resource ≡ true = eq-eqb _ _ c.if-p-c-2.false in
    let delegates : has_right start.p.rights delegating ≡ true = sym c.has.ensures ∙ c.if-not-has.false in
    let contains : has_rights start.p.rights start.c.rights ≡ false = sym c.has_all.ensures ∙ c.if-not-has_all.true in
    sym (passes held ∙ passes same ∙ passes delegates ∙ fails _ contains)

pub returns : goal.returns
unfolding drawn_from
returns c =
    let start = c.args in
    let held : eqb start.p.holder start.c.grantor ≡ true = eq-eqb _ _ c.if-p-c.false in
    let same : eqb start.p.resource start.c.resource ≡ true = eq-eqb _ _ c.if-p-c-2.false in
    let delegates : has_right start.p.rights delegating ≡ true = sym c.has.ensures ∙ c.if-not-has.false in
    let contains : has_rights start.p.rights start.c.rights ≡ true = sym c.has_all.ensures ∙ c.if-not-has_all.false in
    sym (passes held ∙ passes same ∙ passes delegates ∙ passes contains ∙ and-true (leb start.c.weight start.p.weight))
