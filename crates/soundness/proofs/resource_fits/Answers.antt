-- `soundness::resource_fits` meets its contract: each answer by the test that decides (Fits). Assumes nothing.
use Rattle.std.proofs.Common.{sym, ◌∙◌}
use Rattle.soundness.proofs.Fits.{resource_unnumbered, resource_beyond_public, resource_unkept, resource_beyond_path, resource_kept_by_other, resource_path}
use Rattle.soundness.proofs.resource_fits.Goals as goal

pub returns-then-not-is_id : goal.returns-then-not-is_id
returns-then-not-is_id c = sym (resource_unnumbered _ _ (sym c.is_id.ensures ∙ c.if-not-is_id.true))

pub returns-then-o-gt1 : goal.returns-then-o-gt1
returns-then-o-gt1 c =
    sym (resource_beyond_public _ _ (sym c.is_id.ensures ∙ c.if-not-is_id.false) c.if-o-gt1.true)

pub returns-then-not-is_id-2 : goal.returns-then-not-is_id-2
returns-then-not-is_id-2 c =
    sym (resource_unkept _ _ (sym c.is_id.ensures ∙ c.if-not-is_id.false) c.if-o-gt1.false (sym c.is_id-2.ensures ∙ c.if-not-is_id-2.true))

pub returns-then-o-gt-PATH : goal.returns-then-o-gt-PATH
returns-then-o-gt-PATH c =
    sym (resource_beyond_path _ _ (sym c.is_id.ensures ∙ c.if-not-is_id.false) c.if-o-gt1.false (sym c.is_id-2.ensures ∙ c.if-not-is_id-2.false) c.if-o-gt-PATH.true)

pub returns-then-not-kept : goal.returns-then-not-kept
returns-then-not-kept c =
    sym (resource_kept_by_other _ _ (sym c.is_id.ensures ∙ c.if-not-is_id.false) c.if-o-gt1.false (sym c.is_id-2.ensures ∙ c.if-not-is_id-2.false) c.if-o-gt-PATH.false
    (c.if-not-kept.true))

pub returns : goal.returns
returns c =
    c.path_fits.ensures
    ∙ sym (resource_path _ _ (sym c.is_id.ensures ∙ c.if-not-is_id.false) c.if-o-gt1.false (sym c.is_id-2.ensures ∙ c.if-not-is_id-2.false) c.if-o-gt-PATH.false
    (c.if-not-kept.false))
