-- `checking::of_form` meets its contract: another holder, resource or rights number is enough for no, and with these as asked the grantor decides
-- (Passing). Assumes nothing.
use Rattle.std.proofs.Common.{sym, ◌∙◌}
use Rattle.checking.proofs.Passing.{holder_other, resource_other, rights_other, grantor_decides}
use Rattle.checking.proofs.of_form.Goals as goal

pub returns-then-c-x : goal.returns-then-c-x
returns-then-c-x c = sym (holder_other _ _ _ _ c.if-c-x.true)

pub returns-then-c-u : goal.returns-then-c-u
returns-then-c-u c = sym (resource_other _ _ _ _ c.if-c-u.true)

pub returns-then-c-worth : goal.returns-then-c-worth
returns-then-c-worth c = sym (rights_other _ _ _ _ (λ e. c.if-c-worth.true (e ∙ sym c.worth.ensures)))

pub returns : goal.returns
returns c =
    c.is_among.ensures
    ∙ sym (grantor_decides _ _ _ _ c.if-c-x.false c.if-c-u.false (c.if-c-worth.false ∙ c.worth.ensures))
