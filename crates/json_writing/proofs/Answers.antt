-- What writing an action answers and leaves, by what is found of it. Assumes nothing.
use Rattle.std.proofs.Common.{Err, ℕ, ◌≡◌, refl, List, true, false, arith, leb-false, leb, length}
use Rattle.lists.specs.Tests.{cases}
use Rattle.refusals.specs.declared.Refusal.{Refusal}
use Rattle.refusals.specs.declared.Refusal.TheVariants.{Range, JsonLacks}
use Rattle.actions.specs.declared.Action.{Action}
use Rattle.buffers.specs.Buffers.{put}
use Rattle.buffers.specs.Laws.{put_short}
use Rattle.buffers.specs.Delivery.{delivered, unwritten}
use Rattle.json_rules.specs.Actions.{json_text, json_fits, json_holds, json_written, json_buffer}

module _ (a : Action) (id : List ℕ) (kind : ℕ) (old : List ℕ) where
  pub json_unfit : json_fits a id kind ≡ false → (unwritten Range ≡ json_written a id kind old) × (old ≡ json_buffer a id kind old)
  unfolding json_written json_buffer
  json_unfit unfit = rw unfit (refl, refl)

  pub json_unheld : json_fits a id kind ≡ true → json_holds a ≡ false
      → (unwritten JsonLacks ≡ json_written a id kind old) × (old ≡ json_buffer a id kind old)
  unfolding json_written json_buffer
  json_unheld fits unheld = rw (fits, unheld) (refl, refl)

  pub json_held : json_fits a id kind ≡ true → json_holds a ≡ true
      → (json_written a id kind old ≡ delivered (json_text a id kind) old) × (json_buffer a id kind old ≡ put 0 (json_text a id kind) old)
  unfolding json_written json_buffer
  json_held fits holds = rw (fits, holds) (refl, refl)

  -- a text that is not delivered: its length is 0, and nothing was put
  undelivered : (t : List ℕ) (why : Refusal) → (delivered t old).outcome ≡ Err why → ((delivered t old).length ≡ 0) × (put 0 t old ≡ old)
  unfolding delivered
  undelivered t why e =
      cases (leb (length t) (length old))
      (λ fits. let never : ◌≡◌ {A = ℕ} 0 1 = cc (rw fits at e) in absurd (omega arith))
      (λ short. rw short (refl, (put_short 0 t old (omega (arith, leb-false (length t) (length old) short))).0))

  -- a refused write gives length 0 and leaves the buffer as it was
  pub json_unwritten : (why : Refusal) → (json_written a id kind old).outcome ≡ Err why
      → ((json_written a id kind old).length ≡ 0) × (json_buffer a id kind old ≡ old)
  unfolding json_written json_buffer
  json_unwritten why e =
      cases (json_fits a id kind)
      (λ fits. cases (json_holds a) (λ holds. rw (fits, holds) (undelivered (json_text a id kind) why (rw (fits, holds) at e)))
      (λ unheld. rw (fits, unheld) (refl, refl)))
      (λ unfit. rw unfit (refl, refl))
