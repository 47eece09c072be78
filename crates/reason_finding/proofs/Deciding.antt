-- Who may, by the holders of the claims that cover: as they are put together, and actor by actor. Assumes nothing.
use Rattle.std.proofs.Common.{◌≡◌, Bool, false, List, ℕ, min, get_or}
use Rattle.lists.specs.Fills.{filled_by}
use Rattle.register.specs.Limits.{claim_limit}
use Rattle.reason_finding.specs.Covering.{coverer_of, coverers_of}

-- all that are to be filled in are filled in, by the columns of the sheet
module _ (ends spots : List ℕ) (marks : List Bool) (n right moment : ℕ) {holders rights theirs kept : List ℕ} {top : ℕ} where
  pub coverers_told : holders ≡ theirs → rights ≡ kept → top ≡ min n claim_limit
      → filled_by claim_limit (λ j. coverer_of (get_or holders j 0) (get_or ends j 0) (get_or rights j 0) (get_or marks (get_or spots j 0) false) right moment) top 0
      ≡ coverers_of theirs kept ends spots marks n right moment
  unfolding coverers_of
  coverers_told of-holders of-rights of-top = rw (of-holders, of-rights, of-top)
