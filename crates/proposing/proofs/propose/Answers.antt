-- `proposing::propose` meets its contract: a test stops it, or the planner by marks answers, which is what is proposed (`planned_proposed`). Assumes
-- nothing.
use Rattle.std.proofs.Common.{◌≡◌, sym, ◌∙◌, length, rules}
use Rattle.lists.specs.Loops.{length_mapped}
use Rattle.register.specs.Limits.{path_limit}
use Rattle.register.specs.Register.{Shaped}
use Rattle.soundness.specs.Laws.{examined}
use Rattle.proposals.proofs.Planning.{planned_proposed}
use Rattle.proposals.proofs.Exact.{asked_out}
use Rattle.register.specs.contracts.Resource.{the_row}
use Rattle.proposing.proofs.Owned.{each_told}
use Rattle.proposing.proofs.Answering.{asked_told, marks_stopped}
use Rattle.proposing.proofs.propose.Goals as goal

pub propose_by-requires : goal.propose_by-requires
propose_by-requires c =
    let a = c.args in
    let shaped : Shaped a.r = record {
      actors = search (rules, length_mapped);
      resources = search (rules, length_mapped);
      claims = search (rules, length_mapped);
      paths = each_told the_row.own_val (λ o. length o.path ≡ path_limit) (λ o u told. search (rules, told)) a.r.resources.list _
          c.well_formed.0.1.1.1.0.1.1.0.1.1;
    } in
    let opened = examined a.r (c.examine-found.ensures.put, c.examine-found.ensures.found) in
    let passed = sym (c.asked-outcome.ensures ∙ asked_told a.r a.actor a.usage a.moment a.signers opened shaped.claims c.asks_fit-inside.ensures c.is_among-known.ensures)
    ∙ c.in-Ok.is in
    (record { opened = opened; shaped = shaped; asked = asked_out a.r a.actor a.usage a.moment a.signers passed }, passed)

pub returns-in-Err : goal.returns-in-Err
returns-in-Err c =
    let a = c.args in
    let shaped : Shaped a.r = record {
      actors = search (rules, length_mapped);
      resources = search (rules, length_mapped);
      claims = search (rules, length_mapped);
      paths = each_told the_row.own_val (λ o. length o.path ≡ path_limit) (λ o u told. search (rules, told)) a.r.resources.list _
          c.well_formed.0.1.1.1.0.1.1.0.1.1;
    } in
    let opened = examined a.r (c.examine-found.ensures.put, c.examine-found.ensures.found) in
    c.refused.ensures
    ∙ marks_stopped a.r a.actor a.usage a.moment a.signers c.in-Err.why
    (sym (c.asked-outcome.ensures ∙ asked_told a.r a.actor a.usage a.moment a.signers opened shaped.claims c.asks_fit-inside.ensures c.is_among-known.ensures)
    ∙ c.in-Err.is)
    ∙ planned_proposed a.r a.actor a.usage a.moment a.signers shaped

pub returns-in-Ok : goal.returns-in-Ok
returns-in-Ok c =
    let a = c.args in
    let shaped : Shaped a.r = record {
      actors = search (rules, length_mapped);
      resources = search (rules, length_mapped);
      claims = search (rules, length_mapped);
      paths = each_told the_row.own_val (λ o. length o.path ≡ path_limit) (λ o u told. search (rules, told)) a.r.resources.list _
          c.well_formed.0.1.1.1.0.1.1.0.1.1;
    } in
    c.propose_by.ensures ∙ planned_proposed a.r a.actor a.usage a.moment a.signers shaped
