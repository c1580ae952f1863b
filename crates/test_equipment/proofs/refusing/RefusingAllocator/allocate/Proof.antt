-- `allocate` counts the request: it refuses one that is to be refused, and hands any other to the inner allocator.
use Rattle.std.proofs.Common.{◌≡◌, ℕ, ◌^◌, ◌<◌, Bool, true, false, List, [], ◌∷◌, refl, w64, Bor}
use seplogic.Ra.Ura.{Ura}
use mir.Syntax.{Ty, Fn}
use mir.Val.{Val, vbool, vint, vptr}
use mir.MapTy.{inst_fn}
use base.Logic.{SProp, ent, id⊢}
use base.Fml.{Lft, Share, ftrue, flft}
use prog.Memory.{Memory, size, align, capped}
use prog.Routine.{Routine}
use prog.Wp.{Env, WpFn, Tables}
use types.Logic.{Logic, sem}
use types.Kit.{‵, raw, ◌⊛◌, some, later, given, at_ret, ⋆, ◌$◌, ◌∵◌, !, qed, by, move, keep, use0, use1, use2, split, join, pick, learn, fsplit, fjoin, suffices, await, done}
use types.Part.{agg}
use types.Run.{stop, fld, addr, lit, no_more, and_then, first, branches, skips, exec, returns, returns_within, enter}
use types.ByLocal.{alloc_all, pass_all, free_all, look_at, get, through, sets, lands_as, env}
use contract.BorrowLft.{◌⊑◌, ⊑_trans}
use contract.Monad.{Fun, fact}
use contract.Running.{tables, tables_of}
use sound.WpLaws.{fm_of, WpFn-mono}
use denote.Builtin.{usize}
use denote.Exit.{yes}
use denote.Memory.{hidden_shr}
use denote.Plain.{uint_vals, uint_Tells}
use denote.RattleType.{owns}
use denote.Ref.{shr_vals}
use denote.Signature.{plain, types_at}
use denote.Steps.{heard, nothing}
use denote.Triple.Call.{calls_at}
use denote.Triple.Clauses.{Ended, Clauses}
use denote.Triple.Spec.{triple_of}
use denote.Triple.Statement.{Contract, Triple}
use denote.Triple.Table.{entered, cited}
use denote.Triple.Walked.{Stays, stay_dropped, walk_of, ends_at, walked, Goes-dropped, walk_Meets}
use Rattle.std.specs.Allocator.{block_if_ok}
use Rattle.std.proofs.alloc.Calls.{Al, token, seen, got, Answer, answer_val, Answer-typed, takes_key, Takes, at_takes, Takes-goes, Takes-gives}
use Rattle.std.proofs.alloc.Resizes.{result_of, result_own}
use Rattle.std.proofs.alloc.Shapes.{after}
use Rattle.test_equipment.proofs.Handle.{Rule, Refuser, args, self, inner_at, rule_at, parts, Counts, counting, counts_from, counts_to}
use Rattle.test_equipment.proofs.refusing.refuses.Symbol as refuses_key
use Rattle.test_equipment.proofs.refusing.refuses.Met as refuses_met
use Rattle.test_equipment.specs.contracts.refusing.RefusingAllocator.allocate as F
use Rattle.test_equipment.specs.contracts.refusing.RefusingAllocator.allocate.Key as key
use Rattle.test_equipment.proofs.refusing.RefusingAllocator.allocate.Statement as stated
use Rattle.test_equipment.proofs.refusing.RefusingAllocator.allocate.Code as code

module _ (Z : Al) where
  abbrev here : Fn
  here = inst_fn (args Z) code.function

  abbrev ended : Ended
  ended = F.ended Z.row Z.g Z.d Z.drops

  abbrev stayed : Stays ended.signature.params ended.kept
  stayed = (stay_dropped (self Z) yes, (stay_dropped (plain (λ _. usize)) yes, (stay_dropped (plain (λ _. usize)) yes, tt)))

-- What a result hands over, said by its flag and said by its value.
module _ (Z : Al) {M : Type 1} {𝓤 : Ura M} (𝓛 : Logic 𝓤) where
  hands : (h : Z.row.Denot) (τ : Ty) (y : Bool) (b o : ℕ) → ent 𝓤 (sem 𝓛 (got (token Z h) τ y b o)) (sem 𝓛 (block_if_ok (token Z h) τ (result_of y b o)))
  hands h τ true b o = id⊢ 𝓤 _
  hands h τ false b o = id⊢ 𝓤 _

module _ (Z : Al) {M : Type 1} {𝓤 : Ura M} (𝓛 : Logic 𝓤) (at_mem : Memory → SProp 𝓤) (run : Routine → Fun 𝓤) (𝓣 : Tables 𝓤 𝓛.H)
    (inner_meets : Triple 𝓤 (𝓣.C (takes_key Z)) (Takes Z 𝓛 at_mem run)) (count_meets : Triple 𝓤 (𝓣.C refuses_key.name) (Counts 𝓛 at_mem run)) where
  open 𝓛 use {H}

  abbrev clauses : Clauses 𝓤 (ended Z)
  clauses = F.clauses Z.row Z.g Z.d Z.drops 𝓛 at_mem run

  abbrev Asks : Contract 𝓤
  Asks = Takes Z 𝓛 at_mem run

  abbrev Counted : Contract 𝓤
  Counted = Counts 𝓛 at_mem run

  -- One call: `&self` with its two lifetimes and their shares, the layout that is requested, and the type that has it.
  module _ (κ ρ : Lft) (q s : Share) (out : κ ⊑ ρ) (r : Bor (Refuser Z).Denot) (n a : ℕ) (τ : Ty) where
    abbrev bound : (walk_of 𝓛 (ended Z) (stayed Z) clauses).Ghost
    bound = (((κ, (ρ, tt)), (q, (s, tt)), (out, tt), (r, (n, (a, tt))), (shr_vals r, (vint w64 n ∷ [], (vint w64 a ∷ [], tt)))), τ)

    abbrev vs : List Val
    vs = vptr r.ref_ptr.0 r.ref_ptr.1 ∷ vint w64 n ∷ vint w64 a ∷ []

    abbrev Post : Val → SProp 𝓤
    Post = (walk_of 𝓛 (ended Z) (stayed Z) clauses).post bound

    abbrev Said : Type 0
    Said = (capped (size τ) ≡ n) × (capped (align τ) ≡ a)

    -- Each way out: a result, what it hands over, and both tokens.
    leaves : (y : Bool) (b o : ℕ)
        → ent 𝓤 (⋆ 𝓛 (‵ (got (token Z r.now.inner) τ y b o) ∷ ‵ (flft κ q) ∷ (‵ (flft ρ s) ⊛ ‵ ftrue) ∷ [])) (Post (answer_val y b o))
    leaves y b o =
        qed 𝓛 (‵ (got (token Z r.now.inner) τ y b o) ∷ ‵ (flft κ q) ∷ (‵ (flft ρ s) ⊛ ‵ ftrue) ∷ []) ∵
        suffices ! _ (ends_at 𝓛 (ended Z) (stayed Z) clauses bound (answer_val y b o) (result_of y b o) (tt, (tt, (tt, tt))) (tt, (tt, (tt, tt)))) $
        use1 𝓛 (‵ (block_if_ok (token Z r.now.inner) τ (result_of y b o))) (hands Z 𝓛 r.now.inner τ y b o) $
        use0 𝓛 (‵ (Answer.own_val (result_of y b o) (answer_val y b o ∷ []))) (result_own 𝓛 y b o) $
        nothing ! $ nothing ! $ fjoin ! $ nothing ! $ fjoin ! $ nothing ! $ fjoin ! $ join ! $
        -- [the parameters and the result; what it hands over; the tokens]
        move ! (2 ∷ 3 ∷ []) $ join ! $ join ! $ done !

    -- The body: the count is read, and then either the result is an error or the inner allocator gives it.
    walk : n < 2 ^ 64 → a < 2 ^ 64 → ent 𝓤 ((walk_of 𝓛 (ended Z) (stayed Z) clauses).pre bound) (WpFn 𝓤 H 𝓣.C 𝓣.Λ (here Z) vs Post)
    walk fits_n fits_a =
        let h : (Refuser Z).Denot = r.now in
        let inner : ℕ × ℕ = inner_at Z r.ref_ptr in
        let rule : ℕ × ℕ = rule_at Z r.ref_ptr in
        let asked : Asks.Ghost = at_takes Z 𝓛 at_mem run κ q inner h.inner n a τ in
        let counted : Counted.Ghost = counting 𝓛 at_mem run κ q rule h.refusals n in
        qed 𝓛 (((‵ (flft κ q) ⊛ ‵ (flft ρ s) ⊛ ‵ ftrue) ⊛ ‵ (owns (types_at (ended Z).signature.params bound.0.0) bound.0.3 bound.0.4))
        ∷ (raw (fact 𝓤 (ρ ⊑ Z.row.lives)) ⊛ raw (fact 𝓤 Said)) ∷ []) ∵
        move ! (1 ∷ []) $ split ! $ heard ! (ρ ⊑ Z.row.lives) (λ lives. heard ! Said (λ said.
        split ! $ split ! $ move ! (2 ∷ []) $ fsplit ! $ fsplit ! $ keep ! (1 ∷ 3 ∷ 4 ∷ []) $
        use1 𝓛 (‵ (seen Z κ inner h.inner) ⊛ ‵ (hidden_shr Rule κ h.refusals rule.0 rule.1)) (parts Z 𝓛 κ r.ref_ptr h) $ split ! $
        enter ! 𝓣.C 𝓣.Λ (here Z) vs _ $ alloc_all ! (λ l. pass_all ! refl ((tt, tt), ((tt, record { fits = fits_n }), ((tt, record { fits = fits_a }), tt))) $
        let En : Env 𝓤 H = env (here Z).locals l in
        -- [the `&` to the inner allocator; the `&` to what is refused; κ's token; ρ's]
        sets ! (addr ! (through ! refl (fld ! refl (stop !)))) refl (tt, tt) $
        move ! (1 ∷ 2 ∷ []) $ use2 𝓛 (raw (Counted.pre counted)) (counts_from 𝓛 at_mem run κ q rule h.refusals n fits_n) $
        calls_at ! (fm_of 𝓤 H 𝓛.laws 𝓣) Counted count_meets counted (and_then ! (get ! refl) (and_then ! (get ! refl) (no_more !))) (λ u.
        use1 𝓛 (later (some (λ (y : Bool). given (u ≡ vbool y) (‵ (flft κ q))))) (counts_to 𝓛 at_mem run κ q rule h.refusals n u) $ await ! tt $
        pick ! (λ y. learn ! (λ is_y. lands_as ! is_y refl (tt, tt) $
        -- [κ's token; the `&` to the inner allocator; ρ's token]
        first ! $ branches ! (get ! refl)
        (λ _. sets ! (agg ! (no_more !)) refl (tt, tt) $
        sets ! (agg ! (and_then ! (lit ! tt) (and_then ! (get ! refl) (no_more !)))) refl (Answer-typed false 0 0) $
        returns_within ! Post refl (look_at ! 0 refl) $ free_all ! refl $ nothing ! $ keep ! (0 ∷ 1 ∷ 3 ∷ []) $ by ! (leaves false 0 0))
        (λ _. skips ! $ exec ! 𝓣.C 𝓣.Λ En (after 3 (here Z).body) (at_ret En Post) $
        sets ! (addr ! (through ! refl (fld ! refl (stop !)))) refl (tt, tt) $
        move ! (1 ∷ 0 ∷ []) $
        use2 𝓛 (raw (Asks.pre asked)) (Takes-goes Z 𝓛 at_mem run κ q inner h.inner (⊑_trans κ ρ Z.row.lives out lives) n a τ said.0 said.1 fits_n fits_a) $
        calls_at ! (fm_of 𝓤 H 𝓛.laws 𝓣) Asks inner_meets asked (and_then ! (get ! refl) (and_then ! (get ! refl) (and_then ! (get ! refl) (no_more !)))) (λ v.
        use1 𝓛 (later (some (λ (c : Bool × (ℕ × ℕ)). given (v ≡ answer_val c.0 c.1.0 c.1.1) (‵ (got (token Z h.inner) τ c.0 c.1.0 c.1.1))) ⊛ ‵ (flft κ q)))
        (Takes-gives Z 𝓛 at_mem run κ q inner h.inner n a τ v) $ await ! tt $ split ! $ pick ! (λ c. learn ! (λ is_c.
        lands_as ! is_c refl (Answer-typed c.0 c.1.0 c.1.1) $ returns ! (look_at ! 0 refl) $ free_all ! refl $ by ! (leaves c.0 c.1.0 c.1.1)))))))))))

-- The walk, at what the call's entry in the table hands it.
pub allocate_spec : {M : Type 1} → stated.statement M
unfolding tables_of
allocate_spec 𝓤 𝓛 𝓜 𝓡 wired Y L g d drops met _ =
    let Z : Al = record { row = Y; laws = L; g = g; d = d; drops = drops } in
    let 𝓣 : Tables 𝓤 𝓛.H = tables_of 𝓤 𝓛.H 𝓜 (tables 𝓤 𝓛.H 𝓜 𝓡 𝓡.env) in
    let counts = cited 𝓤 𝓛.H _ 𝓜 𝓡 𝓡.env refuses_key.name (𝓡.env refuses_key.name) refl (refuses_met.met 𝓤 𝓛 𝓜 𝓡 (code.calls-test_equipment::refusing::refuses 𝓡.env wired)) in
    let size_goes = Goes-dropped 𝓛 2 (plain (λ _. usize)) yes (λ κs x f. refl) in
    let self_goes = Goes-dropped 𝓛 2 (self Z) yes (λ κs x f. refl) in
    let c = F.clauses Y g d drops 𝓛 𝓜.mem 𝓡.returns in
    let body = WpFn 𝓤 𝓛.H 𝓣.C 𝓣.Λ (here Z) in
    entered 𝓤 𝓛.H (triple_of 𝓛 (F.signature Y) (F.spec Y g d drops 𝓛 𝓜.mem 𝓡.returns)) 𝓣.C 𝓣.Λ (key.name (args Z)) (here Z) (code.unfolded 𝓤 𝓛.H 𝓜 𝓡 wired (Y, tt) d drops)
    (walk_Meets 𝓛 (ended Z) (stayed Z) (self_goes, (size_goes, (size_goes, tt))) c body (WpFn-mono 𝓤 𝓛.H 𝓛.laws 𝓣 (here Z))
    (walked 𝓛 (ended Z) (stayed Z) c body (λ κs. (shr_vals, (uint_vals w64, (uint_vals w64, tt)))) (λ κs. ((λ r vs is. is.0), (uint_Tells w64, (uint_Tells w64, tt))))
    (λ κs qs bounds a τ are.
    walk Z 𝓛 𝓜.mem 𝓡.returns 𝓣 (met.allocate drops) counts κs.0 κs.1.0 qs.0 qs.1.0 bounds.0 a.0 a.1.0 a.1.1.0 τ are.1.0.1 are.1.1.0.1)))
