-- `attaching::settle` meets its contract: the register is examined by a sheet of its claims, and the gate judges by what is found, so its decision
-- tells the outcome (Settling). Assumes nothing.
use Rattle.std.proofs.Common.{◌≡◌, is_some, sym, ap, ◌∙◌, refl, rules, length}
use Rattle.std.proofs.lemmas.Bool.{not-true, not-false}
use Rattle.lists.specs.Loops.{length_mapped}
use Rattle.register.specs.Limits.{claim_limit}
use Rattle.soundness.specs.Laws.{judged_sound}
use Rattle.attaching.proofs.Settling.{settled_unsound, settled_misfit, settled_by}
use Rattle.attaching.proofs.settle.Goals as goal

pub returns-then-not-found : goal.returns-then-not-found
returns-then-not-found c =
    let a = c.args in
    let room : length a.r.claims.list ≡ claim_limit = search (rules, length_mapped) in
    let found = c.examine-found.ensures in
    let soundly = judged_sound a.r (record { put = found.put; told = found.found }) room in
    settled_unsound _ a.r a.a (sym soundly ∙ not-true _ c.if-not-found.true)

pub returns-in_default : goal.returns-in_default
returns-in_default c =
    let a = c.args in
    let room : length a.r.claims.list ≡ claim_limit = search (rules, length_mapped) in
    let found = c.examine-found.ensures in
    let soundly = judged_sound a.r (record { put = found.put; told = found.found }) room in
    settled_misfit _ a.r a.a (sym soundly ∙ not-false _ c.if-not-found.false) (ap is_some c.in_default.is)

pub returns-in-Permitted : goal.returns-in-Permitted
returns-in-Permitted c =
    let a = c.args in
    let room : length a.r.claims.list ≡ claim_limit = search (rules, length_mapped) in
    let found = c.examine-found.ensures in
    let soundly = judged_sound a.r (record { put = found.put; told = found.found }) room in
    (c.in-Some.is, settled_by _ a.r a.a (sym soundly ∙ not-false _ c.if-not-found.false) refl (c.gate_by-verdict.ensures.gated found.put found.found) c.in-Permitted.is)

pub returns-in-Refused : goal.returns-in-Refused
returns-in-Refused c =
    let a = c.args in
    let room : length a.r.claims.list ≡ claim_limit = search (rules, length_mapped) in
    let found = c.examine-found.ensures in
    let soundly = judged_sound a.r (record { put = found.put; told = found.found }) room in
    settled_by _ a.r a.a (sym soundly ∙ not-false _ c.if-not-found.false) (ap is_some c.in-Some.is) (c.gate_by-verdict.ensures.gated found.put found.found)
    c.in-Refused.is

pub returns-in-Stopped : goal.returns-in-Stopped
returns-in-Stopped c =
    let a = c.args in
    let room : length a.r.claims.list ≡ claim_limit = search (rules, length_mapped) in
    let found = c.examine-found.ensures in
    let soundly = judged_sound a.r (record { put = found.put; told = found.found }) room in
    settled_by _ a.r a.a (sym soundly ∙ not-false _ c.if-not-found.false) (ap is_some c.in-Some.is) (c.gate_by-verdict.ensures.gated found.put found.found)
    c.in-Stopped.is
