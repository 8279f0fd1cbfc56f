-- A call of `is_refused`: its arguments, which are a `&` to the budget and a token of its lifetime, and what a caller
-- has afterwards, which is some result.
use Rattle.std.proofs.Common.{◌≡◌, ℕ, List, [], ◌∷◌, refl, ap, Bool}
use seplogic.Ra.Ura.{Ura}
use mir.Syntax.{Body, skip, seq}
use mir.Val.{Val, vbool, vptr}
use base.Logic.{SProp, ent, sep, ex, guard, id⊢}
use base.Fml.{Lft, Share, ftrue, fsep, flft}
use prog.Memory.{Memory}
use prog.Routine.{Routine}
use types.Logic.{Logic, sem}
use contract.Monad.{Fun}
use types.Kit.{‵, raw, ◌⊛◌, some, later, ◌$◌, ◌∵◌, !, qed, move, keep, use1, split, join, pick, fjoin, feq_i, feq_l}
use types.Kit.{check, show, await, updating, now as at_once, done}
use denote.RattleType.{RattleType}
use denote.Memory.{hidden_shr}
use denote.Builtin.{bool}
use denote.Steps.{nothing, only}
use denote.Triple.Statement.{Contract}
use denote.Triple.Spec.{triple_of}
use Rattle.std.specs.contracts.cell.Cell as cell
use Rattle.test_base.specs.contracts.scarce.Budget as budget
use Rattle.test_base.specs.contracts.scarce.is_refused as asked

-- what comes after the first statement of a body
abbrev pub behind : Body → Body
behind (seq first rest) = rest
behind other = skip

abbrev Kept : RattleType
Kept = cell.the_row budget.the_row

module _ {M : Type 1} {𝓤 : Ura M} (𝓛 : Logic 𝓤) (at_mem : Memory → SProp 𝓤) (run : Routine → Fun 𝓤) where
  abbrev pub Asks : Contract 𝓤
  Asks = triple_of 𝓛 asked.signature (asked.spec 𝓛 at_mem run)

  abbrev pub at_asks : Lft → Share → ℕ × ℕ → Asks.Ghost
  at_asks κ q p = (
    (
      (κ, tt),
      (q, tt),
      tt,
      (record { ref_ptr = p; now = record { value = tt } }, tt),
      (vptr p.0 p.1 ∷ [], tt),
    ),
    tt,
  )

module _ {M : Type 1} {𝓤 : Ura M} (𝓛 : Logic 𝓤) (at_mem : Memory → SProp 𝓤) (run : Routine → Fun 𝓤) (κ : Lft)
    (q : Share) (p : ℕ × ℕ) where
  open 𝓛 use {H, A}

  pub Asks-goes : ent 𝓤 (sep 𝓤 (sem 𝓛 (hidden_shr Kept κ (record { value = tt }) p.0 p.1)) (A.lft κ q))
      ((Asks 𝓛 at_mem run).pre (at_asks 𝓛 at_mem run κ q p))
  Asks-goes =
      qed 𝓛 (‵ (hidden_shr Kept κ (record { value = tt }) p.0 p.1) ∷ ‵ (flft κ q) ∷ []) ∵ feq_i ! (List Val)
      (vptr p.0 p.1 ∷ []) (vptr p.0 p.1 ∷ []) refl $ fjoin ! $
      nothing ! $ move ! (1 ∷ []) $ fjoin ! $ nothing ! $ move ! (2 ∷ []) $ join ! $ join ! $ nothing ! $ move !
      (1 ∷ []) $ done !

  pub Asks-gives : (v : Val)
      → ent 𝓤 ((Asks 𝓛 at_mem run).post (at_asks 𝓛 at_mem run κ q p) v)
      (H.⇛ (ex 𝓤 (λ (b : Bool). guard 𝓤 (v ≡ vbool b) (A.lft κ q))))
  Asks-gives v =
      qed 𝓛 (raw ((Asks 𝓛 at_mem run).post (at_asks 𝓛 at_mem run κ q p) v) ∷ []) ∵ updating ! $
      use1 𝓛 (later (some (λ (b : Bool). ((‵ (flft κ q) ⊛ ‵ ftrue) ⊛ ‵ (bool.own_val b (v ∷ []))) ⊛ some
      (λ (ws : Unit {0} × Unit {0}). ‵ (fsep ftrue ftrue) ⊛ ‵ ftrue)))) (id⊢ 𝓤 _) $ await ! tt $ pick ! (λ b.
      split ! $ split ! $ move ! (1 ∷ []) $ feq_l !
      (λ e. split ! $ at_once ! $ show ! (λ (r : Bool). guard 𝓤 (v ≡ vbool r) (A.lft κ q)) b $ check ! (ap only e) $
      keep ! (0 ∷ []) $ done !))
