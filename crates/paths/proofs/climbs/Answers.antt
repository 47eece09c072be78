-- `paths::climbs` meets its contract. Where no two dots stand next to each other, no component is `..` (`paired_clean`); elsewhere the walk
-- answers. Assumes nothing.
use Rattle.std.proofs.Common.{sym, ◌∙◌}
use Rattle.paths.proofs.Pairs.{paired_clean}
use Rattle.paths.proofs.climbs.Goals as goal

pub returns-else-has_paired_dots : goal.returns-else-has_paired_dots
returns-else-has_paired_dots c = sym (paired_clean c.args.p.now (sym c.has_paired_dots.ensures ∙ c.if-has_paired_dots.false))
