-- The allocator that refuses as its walks see it: its two fields behind a `&`, and `refuses` at a call. Assumes `Logic`.
--     Rule, Refuser              the rows of what is refused and of the allocator
--     args, self                 the type arguments of its methods, and their parameter `&self`
--     inner_at, rule_at          where its fields lie
--     parts                      a `&` to the allocator is one to each field
--     Counts, counting           the contract of `refuses`, and what a call picks in it
--     counts_from, counts_to     what a call of it takes, and what it leaves: its result, and the token
use Rattle.std.proofs.Common.{◌≡◌, ℕ, ◌+◌, ◌^◌, ◌<◌, Bool, List, [], ◌∷◌, refl, ap, w64}
use seplogic.Ra.Ura.{Ura}
use mir.Syntax.{Args, a_type, dnil, dcons}
use mir.Val.{Val, vbool, vint, vptr}
use base.Logic.{SProp, ent, sep, ex, guard, id⊢}
use base.Fml.{Lft, Share, ftrue, fsep, flft}
use prog.Memory.{Memory, size, align, up}
use prog.Routine.{Routine}
use types.Logic.{Logic, sem}
use types.Kit.{‵, raw, ◌⊛◌, some, later, ◌$◌, ◌∵◌, !, qed, move, keep, use1, split, join, fsplit, fjoin, feq_i, feq_l, flt_i, pick, check, show, await, updating, now as at_once, done}
use contract.Monad.{Fun}
use denote.RattleType.{RattleType}
use denote.Memory.{hidden_shr}
use denote.Opens.{unhide}
use denote.Param.{bounded, param}
use denote.Builtin.{bool, RefOf}
use denote.Signature.{Slot, plain}
use denote.Steps.{nothing, only}
use denote.Triple.Spec.{triple_of}
use denote.Triple.Statement.{Contract}
use Rattle.std.proofs.alloc.Calls.{Al, α, seen}
use Rattle.test_equipment.specs.contracts.refusing.Refusals as Refusals
use Rattle.test_equipment.specs.contracts.refusing.Refusing as Refusing
use Rattle.test_equipment.specs.contracts.refusing.refuses as R

abbrev pub Rule : RattleType
Rule = Refusals.the_row

module _ (Z : Al) where
  abbrev pub Refuser : RattleType
  Refuser = Refusing.the_row (param 0 Z.row)

  abbrev pub args : Args
  args = bounded (a_type ∷ []) (Z.row, tt) (dcons Z.d (dcons Z.drops dnil))

  abbrev pub self : Slot 2
  self = RefOf (0 ∷ []) tt (plain (λ _. Refuser)) (λ _. tt)

  abbrev pub inner_at : ℕ × ℕ → ℕ × ℕ
  inner_at p = (p.0, p.1 + up (align (α Z)) 0)

  abbrev pub rule_at : ℕ × ℕ → ℕ × ℕ
  rule_at p = (p.0, p.1 + up 8 (up (align (α Z)) 0 + size (α Z)))

  module _ {M : Type 1} {𝓤 : Ura M} (𝓛 : Logic 𝓤) where
    -- A `&` to the allocator is a `&` to the inner one and a `&` to what is refused.
    pub parts : (κ : Lft) (p : ℕ × ℕ) (h : Refuser.Denot)
        → ent 𝓤 (sem 𝓛 (hidden_shr Refuser κ h p.0 p.1))
        (sep 𝓤 (sem 𝓛 (seen Z κ (inner_at p) h.inner)) (sem 𝓛 (hidden_shr Rule κ h.refusals (rule_at p).0 (rule_at p).1)))
    parts κ p h =
        qed 𝓛 (‵ (hidden_shr Refuser κ h p.0 p.1) ∷ []) ∵ unhide ! $
        -- [both fields, with the end of their list; what the struct leaves over]
        fsplit ! $ fsplit ! $ use1 𝓛 (‵ (seen Z κ (inner_at p) h.inner)) (id⊢ 𝓤 _) $ move ! (1 ∷ []) $
        fsplit ! $ use1 𝓛 (‵ (hidden_shr Rule κ h.refusals (rule_at p).0 (rule_at p).1)) (id⊢ 𝓤 _) $ keep ! (2 ∷ 0 ∷ []) $ done !

module _ {M : Type 1} {𝓤 : Ura M} (𝓛 : Logic 𝓤) (at_mem : Memory → SProp 𝓤) (run : Routine → Fun 𝓤) where
  abbrev pub Counts : Contract 𝓤
  Counts = triple_of 𝓛 R.signature (R.spec 𝓛 at_mem run)

  abbrev pub counting : Lft → Share → ℕ × ℕ → Rule.Denot → ℕ → Counts.Ghost
  counting κ q p c n = (((κ, tt), (q, tt), tt, (record { ref_ptr = p; now = c }, (n, tt)), (vptr p.0 p.1 ∷ [], (vint w64 n ∷ [], tt))), tt)

module _ {M : Type 1} {𝓤 : Ura M} (𝓛 : Logic 𝓤) (at_mem : Memory → SProp 𝓤) (run : Routine → Fun 𝓤)
    (κ : Lft) (q : Share) (p : ℕ × ℕ) (c : Rule.Denot) (n : ℕ) where
  open 𝓛 use {H, A}

  -- A call of `refuses` takes the `&` to what is refused, a size and a token of its lifetime.
  pub counts_from : n < 2 ^ 64 → ent 𝓤 (sep 𝓤 (sem 𝓛 (hidden_shr Rule κ c p.0 p.1)) (A.lft κ q)) ((Counts 𝓛 at_mem run).pre (counting 𝓛 at_mem run κ q p c n))
  counts_from fits =
      qed 𝓛 (‵ (hidden_shr Rule κ c p.0 p.1) ∷ ‵ (flft κ q) ∷ []) ∵
      nothing ! $ move ! (2 ∷ 0 ∷ []) $ join ! $
      -- [the token, with the end of its list; the `&`]
      nothing ! $ flt_i ! n (2 ^ 64) fits $ feq_i ! (List Val) (vint w64 n ∷ []) (vint w64 n ∷ []) refl $ fjoin ! $ fjoin ! $
      -- [the size, with the end of its list; the token; the `&`]
      move ! (2 ∷ []) $ feq_i ! (List Val) (vptr p.0 p.1 ∷ []) (vptr p.0 p.1 ∷ []) refl $ fjoin ! $
      fjoin ! $ nothing ! $ move ! (2 ∷ 1 ∷ 0 ∷ []) $ join ! $ done !

  -- It leaves its result, which is some `bool`, and the token.
  pub counts_to : (v : Val) → ent 𝓤 ((Counts 𝓛 at_mem run).post (counting 𝓛 at_mem run κ q p c n) v)
      (H.⇛ (ex 𝓤 (λ (b : Bool). guard 𝓤 (v ≡ vbool b) (A.lft κ q))))
  counts_to v =
      qed 𝓛 (raw ((Counts 𝓛 at_mem run).post (counting 𝓛 at_mem run κ q p c n) v) ∷ []) ∵ updating ! $
      use1 𝓛 (later (some (λ (b : Bool). ((‵ (flft κ q) ⊛ ‵ ftrue) ⊛ ‵ (bool.own_val b (v ∷ [])))
      ⊛ some (λ (ws : Unit {0} × (Unit {0} × Unit {0})). ‵ (fsep ftrue (fsep ftrue ftrue)) ⊛ ‵ ftrue)))) (id⊢ 𝓤 _) $ await ! tt $ pick ! (λ b.
      split ! $ split ! $ split ! $ keep ! (2 ∷ 0 ∷ []) $ feq_l ! (λ e.
      at_once ! $ show ! (λ (b : Bool). guard 𝓤 (v ≡ vbool b) (A.lft κ q)) b $ check ! (ap only e) $ done !))
