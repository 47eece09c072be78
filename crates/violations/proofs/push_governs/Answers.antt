-- `violations::push_governs` meets its contract. Assumes nothing.
use Rattle.std.proofs.Common.{◌≡◌, refl, sym, ◌∙◌, true, rules, length, length-take}
use Rattle.actions.specs.Actions.{govern_limit, governs_of}
use Rattle.actions.specs.declared.Violation.TheVariants.{MachineGoverns}
use Rattle.violations.specs.PushedLaws.{governed_counted}
use Rattle.violations.specs.Pushing.{pushing_put, pushing_next, pushing_end}
use Rattle.violations.proofs.push_governs.Goals as goal

pub loop-position-preserved : goal.loop-position-preserved
loop-position-preserved c =
    let loop = c.loop-position in (
      loop.invariant.0,
      pushing_next loop.invariant.1 _ c.loop-position-test.true (λ l. refl) (c.put.ensures ∙ pushing_put true (MachineGoverns loop.position) loop.vs refl),
    )

pub returns : goal.returns
returns c =
    let loop = c.loop-position in
    let a = c.args.a in
    let room : length a.governs ≡ govern_limit = search rules in
    let all : length (governs_of a) ≡ c.min-position-end.result = length-take a.governed a.governs ∙ rw room (sym c.min-position-end.ensures) in
    rw (governed_counted, all) (pushing_end loop.invariant.1 c.loop-position-test.false refl)
