-- With nothing governed it is a matter of the uses; something governed has no place.
use Rattle.std.proofs.Common.{◌≡◌, sym, ap, ◌∙◌, rules, eq-eqb, ne_eqb, le-leb, length, get_or, take, drop_of_length-le}
use mathlib.Core.Bool.{and-true, and-false}
use borrow.Author.Tests.{lt-leb}
use Rattle.lists.specs.Lists.{every}
use Rattle.lists.specs.Loops.{drop_next, length_mapped}
use Rattle.actions.specs.Actions.{no_use, use_limit, uses_of}
use Rattle.actions.specs.declared.Action.{Action}
use Rattle.json_rules.specs.Actions.{json_holds}
use Rattle.json_writing.proofs.Listing.{all_used}
use Rattle.json_writing.proofs.has_place.Invariants.{is_plain}
use Rattle.json_writing.proofs.has_place.Goals as goal

holds_ungoverned : (a : Action) → a.governed ≡ 0 → json_holds a ≡ every is_plain (uses_of a)
unfolding json_holds
holds_ungoverned a none = rw (eq-eqb a.governed 0 none) (and-true (every is_plain (uses_of a)))

pub returns-then-a-ne0 : goal.returns-then-a-ne0
unfolding json_holds
returns-then-a-ne0 c =
    let a = c.args.a in
    rw (ne_eqb a.governed 0 c.if-a-ne0.true) (sym (and-false (every is_plain (uses_of a))))

pub loop-u-init : goal.loop-u-init
loop-u-init c =
    let a = c.args.a in
    let room : length a.uses ≡ use_limit = search (rules, length_mapped) in
    holds_ungoverned a c.if-a-ne0.false ∙ ap (every is_plain) (sym (all_used a room c.min-top.ensures))

pub returns-then-u-gt-EXECUTE : goal.returns-then-u-gt-EXECUTE
returns-then-u-gt-EXECUTE c =
    let us = take c.min-top.result c.args.a.uses in
    let u = get_or us c.loop-u.u-index no_use in
    sym (c.loop-u.invariant ∙ rw (drop_next us c.loop-u.u-index no_use c.loop-u-test.true, lt-leb u.right 2 c.if-u-gt-EXECUTE.true))

pub loop-u-preserved : goal.loop-u-preserved
loop-u-preserved c =
    let us = take c.min-top.result c.args.a.uses in
    let u = get_or us c.loop-u.u-index no_use in
    c.loop-u.invariant ∙ rw (drop_next us c.loop-u.u-index no_use c.loop-u-test.true, le-leb u.right 2 c.if-u-gt-EXECUTE.false)

pub returns : goal.returns
returns c =
    let us = take c.min-top.result c.args.a.uses in
    sym (c.loop-u.invariant ∙ rw (drop_of_length-le us c.loop-u-test.false))
