-- `granting::world_outcome` meets its contract: each outcome by the tests that led to it (Deciding), of the world that the columns show
-- (Columns). Assumes nothing.
use Rattle.std.proofs.Common.{sym, ◌∙◌, lt-ltb, le-ltb}
use Rattle.claim_judging.specs.Alone.{world_by}
use Rattle.granting.proofs.Columns.{names_asked, root_asked}
use Rattle.granting.proofs.Deciding.{unknown, id_stands, full, not_keeper, no_machine, ownerless, machine_barred, machine_grants_lem}
use Rattle.granting.proofs.world_outcome.Goals as goal

-- each says what the tests before it found of the world of the call
pub returns-then-not-names_stand : goal.returns-then-not-names_stand
returns-then-not-names_stand c =
    let a = c.args in
    let w = world_by 0 a.actors.now.names a.actors.now.kinds a.actors.now.owners a.h a.resources.now.reports a.resources.now.keepers a.m in
    sym (unknown w a.stands a.n a.c (sym (names_asked a.actors.now.names a.actors.now.kinds a.actors.now.owners a.h a.resources.now.reports a.resources.now.keepers a.m a.c c.names_stand.ensures) ∙ c.if-not-names_stand.true))

pub returns-then-stands : goal.returns-then-stands
returns-then-stands c =
    let a = c.args in
    let w = world_by 0 a.actors.now.names a.actors.now.kinds a.actors.now.owners a.h a.resources.now.reports a.resources.now.keepers a.m in
    let named = sym (names_asked a.actors.now.names a.actors.now.kinds a.actors.now.owners a.h a.resources.now.reports a.resources.now.keepers a.m a.c c.names_stand.ensures) ∙ c.if-not-names_stand.false in
    sym (id_stands w a.stands a.n a.c named c.if-stands.true)

pub returns-then-n-ge-CLAIMS : goal.returns-then-n-ge-CLAIMS
returns-then-n-ge-CLAIMS c =
    let a = c.args in
    let w = world_by 0 a.actors.now.names a.actors.now.kinds a.actors.now.owners a.h a.resources.now.reports a.resources.now.keepers a.m in
    let named = sym (names_asked a.actors.now.names a.actors.now.kinds a.actors.now.owners a.h a.resources.now.reports a.resources.now.keepers a.m a.c c.names_stand.ensures) ∙ c.if-not-names_stand.false in
    sym (full w a.stands a.n a.c named c.if-stands.false (le-ltb _ _ c.if-n-ge-CLAIMS.true))

pub returns-then-not-root_kept : goal.returns-then-not-root_kept
returns-then-not-root_kept c =
    let a = c.args in
    let w = world_by 0 a.actors.now.names a.actors.now.kinds a.actors.now.owners a.h a.resources.now.reports a.resources.now.keepers a.m in
    let named = sym (names_asked a.actors.now.names a.actors.now.kinds a.actors.now.owners a.h a.resources.now.reports a.resources.now.keepers a.m a.c c.names_stand.ensures) ∙ c.if-not-names_stand.false in
    let room = lt-ltb _ _ c.if-n-ge-CLAIMS.false in
    sym (not_keeper w a.stands a.n a.c named c.if-stands.false room (sym (root_asked a.actors.now.names a.actors.now.kinds a.actors.now.owners a.h a.resources.now.reports a.resources.now.keepers a.m a.c c.root_kept.ensures) ∙ c.if-not-root_kept.true))

pub returns-then-not-is_beside : goal.returns-then-not-is_beside
returns-then-not-is_beside c =
    let a = c.args in
    let w = world_by 0 a.actors.now.names a.actors.now.kinds a.actors.now.owners a.h a.resources.now.reports a.resources.now.keepers a.m in
    let named = sym (names_asked a.actors.now.names a.actors.now.kinds a.actors.now.owners a.h a.resources.now.reports a.resources.now.keepers a.m a.c c.names_stand.ensures) ∙ c.if-not-names_stand.false in
    let room = lt-ltb _ _ c.if-n-ge-CLAIMS.false in
    let kept = sym (root_asked a.actors.now.names a.actors.now.kinds a.actors.now.owners a.h a.resources.now.reports a.resources.now.keepers a.m a.c c.root_kept.ensures) ∙ c.if-not-root_kept.false in
    sym (no_machine w a.stands a.n a.c named c.if-stands.false room kept (sym c.is_beside.ensures ∙ c.if-not-is_beside.true))

pub returns-then-is_beside : goal.returns-then-is_beside
returns-then-is_beside c =
    let a = c.args in
    let w = world_by 0 a.actors.now.names a.actors.now.kinds a.actors.now.owners a.h a.resources.now.reports a.resources.now.keepers a.m in
    let named = sym (names_asked a.actors.now.names a.actors.now.kinds a.actors.now.owners a.h a.resources.now.reports a.resources.now.keepers a.m a.c c.names_stand.ensures) ∙ c.if-not-names_stand.false in
    let room = lt-ltb _ _ c.if-n-ge-CLAIMS.false in
    let kept = sym (root_asked a.actors.now.names a.actors.now.kinds a.actors.now.owners a.h a.resources.now.reports a.resources.now.keepers a.m a.c c.root_kept.ensures) ∙ c.if-not-root_kept.false in
    let machine = sym c.is_beside.ensures ∙ c.if-not-is_beside.false in
    sym (ownerless w a.stands a.n a.c named c.if-stands.false room kept machine (sym c.is_beside-2.ensures ∙ c.if-is_beside.true))

pub returns-then-bars_machine : goal.returns-then-bars_machine
returns-then-bars_machine c =
    let a = c.args in
    let w = world_by 0 a.actors.now.names a.actors.now.kinds a.actors.now.owners a.h a.resources.now.reports a.resources.now.keepers a.m in
    let named = sym (names_asked a.actors.now.names a.actors.now.kinds a.actors.now.owners a.h a.resources.now.reports a.resources.now.keepers a.m a.c c.names_stand.ensures) ∙ c.if-not-names_stand.false in
    let room = lt-ltb _ _ c.if-n-ge-CLAIMS.false in
    let kept = sym (root_asked a.actors.now.names a.actors.now.kinds a.actors.now.owners a.h a.resources.now.reports a.resources.now.keepers a.m a.c c.root_kept.ensures) ∙ c.if-not-root_kept.false in
    let machine = sym c.is_beside.ensures ∙ c.if-not-is_beside.false in
    let owned = sym c.is_beside-2.ensures ∙ c.if-is_beside.false in
    sym (machine_barred w a.stands a.n a.c named c.if-stands.false room kept machine owned (sym c.bars_machine.ensures ∙ c.if-bars_machine.true))

pub returns : goal.returns
returns c =
    let a = c.args in
    let w = world_by 0 a.actors.now.names a.actors.now.kinds a.actors.now.owners a.h a.resources.now.reports a.resources.now.keepers a.m in
    let named = sym (names_asked a.actors.now.names a.actors.now.kinds a.actors.now.owners a.h a.resources.now.reports a.resources.now.keepers a.m a.c c.names_stand.ensures) ∙ c.if-not-names_stand.false in
    let room = lt-ltb _ _ c.if-n-ge-CLAIMS.false in
    let kept = sym (root_asked a.actors.now.names a.actors.now.kinds a.actors.now.owners a.h a.resources.now.reports a.resources.now.keepers a.m a.c c.root_kept.ensures) ∙ c.if-not-root_kept.false in
    let machine = sym c.is_beside.ensures ∙ c.if-not-is_beside.false in
    let owned = sym c.is_beside-2.ensures ∙ c.if-is_beside.false in
    sym (machine_grants_lem w a.stands a.n a.c named c.if-stands.false room kept machine owned (sym c.bars_machine.ensures ∙ c.if-bars_machine.false))
