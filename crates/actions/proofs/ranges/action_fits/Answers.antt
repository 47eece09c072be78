-- `actions::ranges::action_fits` meets its contract: a number out of range is enough for no, and with the numbers in range the entries
-- decide (Fitting). Assumes nothing.
use Rattle.std.proofs.Common.{sym, arith}
use Rattle.actions.proofs.Fitting.{actor_out, now_out, flags_out, used_out, governed_out, entries_decide}
use Rattle.actions.proofs.ranges.action_fits.Goals as goal

pub returns-then-a-gt-ID_LIMIT : goal.returns-then-a-gt-ID_LIMIT
returns-then-a-gt-ID_LIMIT c = sym (actor_out _ c.if-a-gt-ID_LIMIT.true)

pub returns-then-a-ge-MOMENT_END : goal.returns-then-a-ge-MOMENT_END
returns-then-a-ge-MOMENT_END c = sym (now_out _ c.if-a-ge-MOMENT_END.true)

pub returns-then-a-gt-FLAGS_LIMIT : goal.returns-then-a-gt-FLAGS_LIMIT
returns-then-a-gt-FLAGS_LIMIT c = sym (flags_out _ (omega (arith, c.if-a-gt-FLAGS_LIMIT.true)))

pub returns-then-a-gt-USES : goal.returns-then-a-gt-USES
returns-then-a-gt-USES c = sym (used_out _ c.if-a-gt-USES.true)

pub returns-then-a-gt-GOVERNED : goal.returns-then-a-gt-GOVERNED
returns-then-a-gt-GOVERNED c = sym (governed_out _ c.if-a-gt-GOVERNED.true)

pub returns : goal.returns
returns c =
    rw (c.uses_fit.ensures, c.governs_fit.ensures)
    (sym (entries_decide c.args.a c.if-a-gt-ID_LIMIT.false c.if-a-ge-MOMENT_END.false (omega (arith, c.if-a-gt-FLAGS_LIMIT.false)) c.if-a-gt-USES.false c.if-a-gt-GOVERNED.false))
