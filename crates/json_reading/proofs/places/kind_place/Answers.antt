-- `json_reading::places::kind_place` meets its contract: each name in turn is the one there, or is passed. Assumes nothing.
use Rattle.std.proofs.Common.{sym, ◌∙◌}
use Rattle.json_rules.specs.Names.{place_of}
use Rattle.json_reading.proofs.places.kind_place.Goals as goal

pub returns-then-is_same : goal.returns-then-is_same
unfolding place_of
returns-then-is_same c = rw (sym c.is_same.ensures ∙ c.if-is_same.true)

pub returns-then-is_same-2 : goal.returns-then-is_same-2
unfolding place_of
returns-then-is_same-2 c =
    rw (
      sym c.is_same.ensures ∙ c.if-is_same.false,
      sym c.is_same-2.ensures ∙ c.if-is_same-2.true,
    )

pub returns-then-is_same-3 : goal.returns-then-is_same-3
unfolding place_of
returns-then-is_same-3 c =
    rw (
      sym c.is_same.ensures ∙ c.if-is_same.false,
      sym c.is_same-2.ensures ∙ c.if-is_same-2.false,
      sym c.is_same-3.ensures ∙ c.if-is_same-3.true,
    )

pub returns-then-is_same-4 : goal.returns-then-is_same-4
unfolding place_of
returns-then-is_same-4 c =
    rw (
      sym c.is_same.ensures ∙ c.if-is_same.false,
      sym c.is_same-2.ensures ∙ c.if-is_same-2.false,
      sym c.is_same-3.ensures ∙ c.if-is_same-3.false,
      sym c.is_same-4.ensures ∙ c.if-is_same-4.true,
    )

pub returns-then-is_same-5 : goal.returns-then-is_same-5
unfolding place_of
returns-then-is_same-5 c =
    rw (
      sym c.is_same.ensures ∙ c.if-is_same.false,
      sym c.is_same-2.ensures ∙ c.if-is_same-2.false,
      sym c.is_same-3.ensures ∙ c.if-is_same-3.false,
      sym c.is_same-4.ensures ∙ c.if-is_same-4.false,
      sym c.is_same-5.ensures ∙ c.if-is_same-5.true,
    )

pub returns-then-is_same-6 : goal.returns-then-is_same-6
unfolding place_of
returns-then-is_same-6 c =
    rw (
      sym c.is_same.ensures ∙ c.if-is_same.false,
      sym c.is_same-2.ensures ∙ c.if-is_same-2.false,
      sym c.is_same-3.ensures ∙ c.if-is_same-3.false,
      sym c.is_same-4.ensures ∙ c.if-is_same-4.false,
      sym c.is_same-5.ensures ∙ c.if-is_same-5.false,
      sym c.is_same-6.ensures ∙ c.if-is_same-6.true,
    )

pub returns-then-is_same-7 : goal.returns-then-is_same-7
unfolding place_of
returns-then-is_same-7 c =
    rw (
      sym c.is_same.ensures ∙ c.if-is_same.false,
      sym c.is_same-2.ensures ∙ c.if-is_same-2.false,
      sym c.is_same-3.ensures ∙ c.if-is_same-3.false,
      sym c.is_same-4.ensures ∙ c.if-is_same-4.false,
      sym c.is_same-5.ensures ∙ c.if-is_same-5.false,
      sym c.is_same-6.ensures ∙ c.if-is_same-6.false,
      sym c.is_same-7.ensures ∙ c.if-is_same-7.true,
    )

pub returns-then-is_same-8 : goal.returns-then-is_same-8
unfolding place_of
returns-then-is_same-8 c =
    rw (
      sym c.is_same.ensures ∙ c.if-is_same.false,
      sym c.is_same-2.ensures ∙ c.if-is_same-2.false,
      sym c.is_same-3.ensures ∙ c.if-is_same-3.false,
      sym c.is_same-4.ensures ∙ c.if-is_same-4.false,
      sym c.is_same-5.ensures ∙ c.if-is_same-5.false,
      sym c.is_same-6.ensures ∙ c.if-is_same-6.false,
      sym c.is_same-7.ensures ∙ c.if-is_same-7.false,
      sym c.is_same-8.ensures ∙ c.if-is_same-8.true,
    )

pub returns-then-is_same-9 : goal.returns-then-is_same-9
unfolding place_of
returns-then-is_same-9 c =
    rw (
      sym c.is_same.ensures ∙ c.if-is_same.false,
      sym c.is_same-2.ensures ∙ c.if-is_same-2.false,
      sym c.is_same-3.ensures ∙ c.if-is_same-3.false,
      sym c.is_same-4.ensures ∙ c.if-is_same-4.false,
      sym c.is_same-5.ensures ∙ c.if-is_same-5.false,
      sym c.is_same-6.ensures ∙ c.if-is_same-6.false,
      sym c.is_same-7.ensures ∙ c.if-is_same-7.false,
      sym c.is_same-8.ensures ∙ c.if-is_same-8.false,
      sym c.is_same-9.ensures ∙ c.if-is_same-9.true,
    )

pub returns-then-is_same-10 : goal.returns-then-is_same-10
unfolding place_of
returns-then-is_same-10 c =
    rw (
      sym c.is_same.ensures ∙ c.if-is_same.false,
      sym c.is_same-2.ensures ∙ c.if-is_same-2.false,
      sym c.is_same-3.ensures ∙ c.if-is_same-3.false,
      sym c.is_same-4.ensures ∙ c.if-is_same-4.false,
      sym c.is_same-5.ensures ∙ c.if-is_same-5.false,
      sym c.is_same-6.ensures ∙ c.if-is_same-6.false,
      sym c.is_same-7.ensures ∙ c.if-is_same-7.false,
      sym c.is_same-8.ensures ∙ c.if-is_same-8.false,
      sym c.is_same-9.ensures ∙ c.if-is_same-9.false,
      sym c.is_same-10.ensures ∙ c.if-is_same-10.true,
    )

pub returns-then-is_same-11 : goal.returns-then-is_same-11
unfolding place_of
returns-then-is_same-11 c =
    rw (
      sym c.is_same.ensures ∙ c.if-is_same.false,
      sym c.is_same-2.ensures ∙ c.if-is_same-2.false,
      sym c.is_same-3.ensures ∙ c.if-is_same-3.false,
      sym c.is_same-4.ensures ∙ c.if-is_same-4.false,
      sym c.is_same-5.ensures ∙ c.if-is_same-5.false,
      sym c.is_same-6.ensures ∙ c.if-is_same-6.false,
      sym c.is_same-7.ensures ∙ c.if-is_same-7.false,
      sym c.is_same-8.ensures ∙ c.if-is_same-8.false,
      sym c.is_same-9.ensures ∙ c.if-is_same-9.false,
      sym c.is_same-10.ensures ∙ c.if-is_same-10.false,
      sym c.is_same-11.ensures ∙ c.if-is_same-11.true,
    )

pub returns-then-is_same-12 : goal.returns-then-is_same-12
unfolding place_of
returns-then-is_same-12 c =
    rw (
      sym c.is_same.ensures ∙ c.if-is_same.false,
      sym c.is_same-2.ensures ∙ c.if-is_same-2.false,
      sym c.is_same-3.ensures ∙ c.if-is_same-3.false,
      sym c.is_same-4.ensures ∙ c.if-is_same-4.false,
      sym c.is_same-5.ensures ∙ c.if-is_same-5.false,
      sym c.is_same-6.ensures ∙ c.if-is_same-6.false,
      sym c.is_same-7.ensures ∙ c.if-is_same-7.false,
      sym c.is_same-8.ensures ∙ c.if-is_same-8.false,
      sym c.is_same-9.ensures ∙ c.if-is_same-9.false,
      sym c.is_same-10.ensures ∙ c.if-is_same-10.false,
      sym c.is_same-11.ensures ∙ c.if-is_same-11.false,
      sym c.is_same-12.ensures ∙ c.if-is_same-12.true,
    )

pub returns-then-is_same-13 : goal.returns-then-is_same-13
unfolding place_of
returns-then-is_same-13 c =
    rw (
      sym c.is_same.ensures ∙ c.if-is_same.false,
      sym c.is_same-2.ensures ∙ c.if-is_same-2.false,
      sym c.is_same-3.ensures ∙ c.if-is_same-3.false,
      sym c.is_same-4.ensures ∙ c.if-is_same-4.false,
      sym c.is_same-5.ensures ∙ c.if-is_same-5.false,
      sym c.is_same-6.ensures ∙ c.if-is_same-6.false,
      sym c.is_same-7.ensures ∙ c.if-is_same-7.false,
      sym c.is_same-8.ensures ∙ c.if-is_same-8.false,
      sym c.is_same-9.ensures ∙ c.if-is_same-9.false,
      sym c.is_same-10.ensures ∙ c.if-is_same-10.false,
      sym c.is_same-11.ensures ∙ c.if-is_same-11.false,
      sym c.is_same-12.ensures ∙ c.if-is_same-12.false,
      sym c.is_same-13.ensures ∙ c.if-is_same-13.true,
    )

pub returns-then-is_same-14 : goal.returns-then-is_same-14
unfolding place_of
returns-then-is_same-14 c =
    rw (
      sym c.is_same.ensures ∙ c.if-is_same.false,
      sym c.is_same-2.ensures ∙ c.if-is_same-2.false,
      sym c.is_same-3.ensures ∙ c.if-is_same-3.false,
      sym c.is_same-4.ensures ∙ c.if-is_same-4.false,
      sym c.is_same-5.ensures ∙ c.if-is_same-5.false,
      sym c.is_same-6.ensures ∙ c.if-is_same-6.false,
      sym c.is_same-7.ensures ∙ c.if-is_same-7.false,
      sym c.is_same-8.ensures ∙ c.if-is_same-8.false,
      sym c.is_same-9.ensures ∙ c.if-is_same-9.false,
      sym c.is_same-10.ensures ∙ c.if-is_same-10.false,
      sym c.is_same-11.ensures ∙ c.if-is_same-11.false,
      sym c.is_same-12.ensures ∙ c.if-is_same-12.false,
      sym c.is_same-13.ensures ∙ c.if-is_same-13.false,
      sym c.is_same-14.ensures ∙ c.if-is_same-14.true,
    )

pub returns-then-is_same-15 : goal.returns-then-is_same-15
unfolding place_of
returns-then-is_same-15 c =
    rw (
      sym c.is_same.ensures ∙ c.if-is_same.false,
      sym c.is_same-2.ensures ∙ c.if-is_same-2.false,
      sym c.is_same-3.ensures ∙ c.if-is_same-3.false,
      sym c.is_same-4.ensures ∙ c.if-is_same-4.false,
      sym c.is_same-5.ensures ∙ c.if-is_same-5.false,
      sym c.is_same-6.ensures ∙ c.if-is_same-6.false,
      sym c.is_same-7.ensures ∙ c.if-is_same-7.false,
      sym c.is_same-8.ensures ∙ c.if-is_same-8.false,
      sym c.is_same-9.ensures ∙ c.if-is_same-9.false,
      sym c.is_same-10.ensures ∙ c.if-is_same-10.false,
      sym c.is_same-11.ensures ∙ c.if-is_same-11.false,
      sym c.is_same-12.ensures ∙ c.if-is_same-12.false,
      sym c.is_same-13.ensures ∙ c.if-is_same-13.false,
      sym c.is_same-14.ensures ∙ c.if-is_same-14.false,
      sym c.is_same-15.ensures ∙ c.if-is_same-15.true,
    )

pub returns-then-is_same-16 : goal.returns-then-is_same-16
unfolding place_of
returns-then-is_same-16 c =
    rw (
      sym c.is_same.ensures ∙ c.if-is_same.false,
      sym c.is_same-2.ensures ∙ c.if-is_same-2.false,
      sym c.is_same-3.ensures ∙ c.if-is_same-3.false,
      sym c.is_same-4.ensures ∙ c.if-is_same-4.false,
      sym c.is_same-5.ensures ∙ c.if-is_same-5.false,
      sym c.is_same-6.ensures ∙ c.if-is_same-6.false,
      sym c.is_same-7.ensures ∙ c.if-is_same-7.false,
      sym c.is_same-8.ensures ∙ c.if-is_same-8.false,
      sym c.is_same-9.ensures ∙ c.if-is_same-9.false,
      sym c.is_same-10.ensures ∙ c.if-is_same-10.false,
      sym c.is_same-11.ensures ∙ c.if-is_same-11.false,
      sym c.is_same-12.ensures ∙ c.if-is_same-12.false,
      sym c.is_same-13.ensures ∙ c.if-is_same-13.false,
      sym c.is_same-14.ensures ∙ c.if-is_same-14.false,
      sym c.is_same-15.ensures ∙ c.if-is_same-15.false,
      sym c.is_same-16.ensures ∙ c.if-is_same-16.true,
    )

pub returns-then-is_same-17 : goal.returns-then-is_same-17
unfolding place_of
returns-then-is_same-17 c =
    rw (
      sym c.is_same.ensures ∙ c.if-is_same.false,
      sym c.is_same-2.ensures ∙ c.if-is_same-2.false,
      sym c.is_same-3.ensures ∙ c.if-is_same-3.false,
      sym c.is_same-4.ensures ∙ c.if-is_same-4.false,
      sym c.is_same-5.ensures ∙ c.if-is_same-5.false,
      sym c.is_same-6.ensures ∙ c.if-is_same-6.false,
      sym c.is_same-7.ensures ∙ c.if-is_same-7.false,
      sym c.is_same-8.ensures ∙ c.if-is_same-8.false,
      sym c.is_same-9.ensures ∙ c.if-is_same-9.false,
      sym c.is_same-10.ensures ∙ c.if-is_same-10.false,
      sym c.is_same-11.ensures ∙ c.if-is_same-11.false,
      sym c.is_same-12.ensures ∙ c.if-is_same-12.false,
      sym c.is_same-13.ensures ∙ c.if-is_same-13.false,
      sym c.is_same-14.ensures ∙ c.if-is_same-14.false,
      sym c.is_same-15.ensures ∙ c.if-is_same-15.false,
      sym c.is_same-16.ensures ∙ c.if-is_same-16.false,
      sym c.is_same-17.ensures ∙ c.if-is_same-17.true,
    )

pub returns : goal.returns
unfolding place_of
returns c =
    rw (
      sym c.is_same.ensures ∙ c.if-is_same.false,
      sym c.is_same-2.ensures ∙ c.if-is_same-2.false,
      sym c.is_same-3.ensures ∙ c.if-is_same-3.false,
      sym c.is_same-4.ensures ∙ c.if-is_same-4.false,
      sym c.is_same-5.ensures ∙ c.if-is_same-5.false,
      sym c.is_same-6.ensures ∙ c.if-is_same-6.false,
      sym c.is_same-7.ensures ∙ c.if-is_same-7.false,
      sym c.is_same-8.ensures ∙ c.if-is_same-8.false,
      sym c.is_same-9.ensures ∙ c.if-is_same-9.false,
      sym c.is_same-10.ensures ∙ c.if-is_same-10.false,
      sym c.is_same-11.ensures ∙ c.if-is_same-11.false,
      sym c.is_same-12.ensures ∙ c.if-is_same-12.false,
      sym c.is_same-13.ensures ∙ c.if-is_same-13.false,
      sym c.is_same-14.ensures ∙ c.if-is_same-14.false,
      sym c.is_same-15.ensures ∙ c.if-is_same-15.false,
      sym c.is_same-16.ensures ∙ c.if-is_same-16.false,
      sym c.is_same-17.ensures ∙ c.if-is_same-17.false,
    )
