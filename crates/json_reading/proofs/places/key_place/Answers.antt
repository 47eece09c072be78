-- `json_reading::places::key_place` meets its contract: each name in turn is the one there, or is passed. Assumes nothing.
use Rattle.std.proofs.Common.{sym, ◌∙◌}
use Rattle.json_rules.specs.Names.{place_of}
use Rattle.json_reading.proofs.places.key_place.Goals as goal

pub returns-then-is_same : goal.returns-then-is_same
unfolding place_of
returns-then-is_same c = rw (sym c.is_same.ensures ∙ c.if-is_same.true)

pub returns-then-is_same-2 : goal.returns-then-is_same-2
unfolding place_of
returns-then-is_same-2 c =
    rw (
      sym c.is_same.ensures ∙ c.if-is_same.false,
      sym c.is_same-2.ensures ∙ c.if-is_same-2.true,
    )

pub returns-then-is_same-3 : goal.returns-then-is_same-3
unfolding place_of
returns-then-is_same-3 c =
    rw (
      sym c.is_same.ensures ∙ c.if-is_same.false,
      sym c.is_same-2.ensures ∙ c.if-is_same-2.false,
      sym c.is_same-3.ensures ∙ c.if-is_same-3.true,
    )

pub returns-then-is_same-4 : goal.returns-then-is_same-4
unfolding place_of
returns-then-is_same-4 c =
    rw (
      sym c.is_same.ensures ∙ c.if-is_same.false,
      sym c.is_same-2.ensures ∙ c.if-is_same-2.false,
      sym c.is_same-3.ensures ∙ c.if-is_same-3.false,
      sym c.is_same-4.ensures ∙ c.if-is_same-4.true,
    )

pub returns-then-is_same-5 : goal.returns-then-is_same-5
unfolding place_of
returns-then-is_same-5 c =
    rw (
      sym c.is_same.ensures ∙ c.if-is_same.false,
      sym c.is_same-2.ensures ∙ c.if-is_same-2.false,
      sym c.is_same-3.ensures ∙ c.if-is_same-3.false,
      sym c.is_same-4.ensures ∙ c.if-is_same-4.false,
      sym c.is_same-5.ensures ∙ c.if-is_same-5.true,
    )

pub returns-then-is_same-6 : goal.returns-then-is_same-6
unfolding place_of
returns-then-is_same-6 c =
    rw (
      sym c.is_same.ensures ∙ c.if-is_same.false,
      sym c.is_same-2.ensures ∙ c.if-is_same-2.false,
      sym c.is_same-3.ensures ∙ c.if-is_same-3.false,
      sym c.is_same-4.ensures ∙ c.if-is_same-4.false,
      sym c.is_same-5.ensures ∙ c.if-is_same-5.false,
      sym c.is_same-6.ensures ∙ c.if-is_same-6.true,
    )

pub returns-then-is_same-7 : goal.returns-then-is_same-7
unfolding place_of
returns-then-is_same-7 c =
    rw (
      sym c.is_same.ensures ∙ c.if-is_same.false,
      sym c.is_same-2.ensures ∙ c.if-is_same-2.false,
      sym c.is_same-3.ensures ∙ c.if-is_same-3.false,
      sym c.is_same-4.ensures ∙ c.if-is_same-4.false,
      sym c.is_same-5.ensures ∙ c.if-is_same-5.false,
      sym c.is_same-6.ensures ∙ c.if-is_same-6.false,
      sym c.is_same-7.ensures ∙ c.if-is_same-7.true,
    )

pub returns-then-is_same-8 : goal.returns-then-is_same-8
unfolding place_of
returns-then-is_same-8 c =
    rw (
      sym c.is_same.ensures ∙ c.if-is_same.false,
      sym c.is_same-2.ensures ∙ c.if-is_same-2.false,
      sym c.is_same-3.ensures ∙ c.if-is_same-3.false,
      sym c.is_same-4.ensures ∙ c.if-is_same-4.false,
      sym c.is_same-5.ensures ∙ c.if-is_same-5.false,
      sym c.is_same-6.ensures ∙ c.if-is_same-6.false,
      sym c.is_same-7.ensures ∙ c.if-is_same-7.false,
      sym c.is_same-8.ensures ∙ c.if-is_same-8.true,
    )

pub returns-then-is_same-9 : goal.returns-then-is_same-9
unfolding place_of
returns-then-is_same-9 c =
    rw (
      sym c.is_same.ensures ∙ c.if-is_same.false,
      sym c.is_same-2.ensures ∙ c.if-is_same-2.false,
      sym c.is_same-3.ensures ∙ c.if-is_same-3.false,
      sym c.is_same-4.ensures ∙ c.if-is_same-4.false,
      sym c.is_same-5.ensures ∙ c.if-is_same-5.false,
      sym c.is_same-6.ensures ∙ c.if-is_same-6.false,
      sym c.is_same-7.ensures ∙ c.if-is_same-7.false,
      sym c.is_same-8.ensures ∙ c.if-is_same-8.false,
      sym c.is_same-9.ensures ∙ c.if-is_same-9.true,
    )

pub returns : goal.returns
unfolding place_of
returns c =
    rw (
      sym c.is_same.ensures ∙ c.if-is_same.false,
      sym c.is_same-2.ensures ∙ c.if-is_same-2.false,
      sym c.is_same-3.ensures ∙ c.if-is_same-3.false,
      sym c.is_same-4.ensures ∙ c.if-is_same-4.false,
      sym c.is_same-5.ensures ∙ c.if-is_same-5.false,
      sym c.is_same-6.ensures ∙ c.if-is_same-6.false,
      sym c.is_same-7.ensures ∙ c.if-is_same-7.false,
      sym c.is_same-8.ensures ∙ c.if-is_same-8.false,
      sym c.is_same-9.ensures ∙ c.if-is_same-9.false,
    )
