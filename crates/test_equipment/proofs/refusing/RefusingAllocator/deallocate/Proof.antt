-- `deallocate` hands the block back to the inner allocator.
use Rattle.std.proofs.Common.{◌≡◌, ℕ, ◌^◌, ◌<◌, List, [], ◌∷◌, refl, w64, Bor}
use seplogic.Ra.Ura.{Ura}
use mir.Syntax.{Ty, Fn}
use mir.Val.{Val, vunit, vint, vptr}
use mir.MapTy.{inst_fn}
use base.Logic.{SProp, ent, never_e}
use base.Fml.{Lft, Share, ftrue, fsep, ffalse, flft, froom}
use prog.Memory.{Memory, size, align, capped}
use prog.Routine.{Routine}
use prog.Wp.{WpFn, Tables}
use types.Logic.{Logic}
use types.Kit.{Item, ‵, raw, ◌⊛◌, later, given, ⋆, ◌$◌, ◌∵◌, !, qed, by, move, keep, use1, split, split3, join, learn, fsplit, fjoin, feq_i, suffices, await, done}
use types.Run.{stop, fld, addr, unit_lit, no_more, and_then, of_opd, returns, enter}
use types.ByLocal.{alloc_all, pass_all, free_all, look_at, get, through, sets, lands_as}
use contract.BorrowLft.{◌⊑◌, ⊑_trans}
use contract.Monad.{Fun, fact}
use contract.Running.{tables, tables_of}
use sound.WpLaws.{fm_of, WpFn-mono}
use denote.Builtin.{usize, RawPtr}
use denote.Exit.{yes}
use denote.Memory.{hidden_shr}
use denote.Plain.{uint_vals, uint_Tells}
use denote.RattleType.{owns}
use denote.RawPtr.{Ptr, block_ptr, null_ptr, ptr_val, rawptr_vals, rawptr_Tells}
use denote.Ref.{shr_vals}
use denote.Signature.{plain, types_at}
use denote.Steps.{heard, nothing}
use denote.Triple.Call.{calls_at}
use denote.Triple.Clauses.{Ended, Clauses}
use denote.Triple.Spec.{triple_of}
use denote.Triple.Statement.{Contract, Triple}
use denote.Triple.Table.{entered}
use denote.Triple.Walked.{Stays, stay_dropped, walk_of, ends_at, walked, Goes-dropped, walk_Meets}
use Rattle.std.proofs.alloc.Calls.{Al, token, seen, gives_key, Gives, at_gives, Gives-goes, Gives-Gives}
use Rattle.test_equipment.proofs.Handle.{Rule, Refuser, args, self, inner_at, rule_at, parts}
use Rattle.test_equipment.specs.contracts.refusing.RefusingAllocator.deallocate as F
use Rattle.test_equipment.specs.contracts.refusing.RefusingAllocator.deallocate.Key as key
use Rattle.test_equipment.proofs.refusing.RefusingAllocator.deallocate.Statement as stated
use Rattle.test_equipment.proofs.refusing.RefusingAllocator.deallocate.Code as code

module _ (Z : Al) where
  abbrev here : Fn
  here = inst_fn (args Z) code.function

  abbrev ended : Ended
  ended = F.ended Z.row Z.g Z.d Z.drops

  abbrev stayed : Stays ended.signature.params ended.kept
  stayed = (stay_dropped (self Z) yes, (stay_dropped (plain (λ _. RawPtr)) yes, (stay_dropped (plain (λ _. usize)) yes, (stay_dropped (plain (λ _. usize)) yes, tt))))

module _ (Z : Al) {M : Type 1} {𝓤 : Ura M} (𝓛 : Logic 𝓤) (at_mem : Memory → SProp 𝓤) (run : Routine → Fun 𝓤) (𝓣 : Tables 𝓤 𝓛.H)
    (inner_meets : Triple 𝓤 (𝓣.C (gives_key Z)) (Gives Z 𝓛 at_mem run)) where
  open 𝓛 use {H}

  abbrev clauses : Clauses 𝓤 (ended Z)
  clauses = F.clauses Z.row Z.g Z.d Z.drops 𝓛 at_mem run

  abbrev Frees : Contract 𝓤
  Frees = Gives Z 𝓛 at_mem run

  -- One call: `&self` with its two lifetimes and their shares, the block's layout, and the type that has it.
  module _ (κ ρ : Lft) (q s : Share) (out : κ ⊑ ρ) (r : Bor (Refuser Z).Denot) (n a : ℕ) (τ : Ty) where
    abbrev bound : Ptr → (walk_of 𝓛 (ended Z) (stayed Z) clauses).Ghost
    bound x = (((κ, (ρ, tt)), (q, (s, tt)), (out, tt), (r, (x, (n, (a, tt)))), (shr_vals r, (rawptr_vals x, (vint w64 n ∷ [], (vint w64 a ∷ [], tt))))), τ)

    abbrev vs : Ptr → List Val
    vs x = vptr r.ref_ptr.0 r.ref_ptr.1 ∷ ptr_val x ∷ vint w64 n ∷ vint w64 a ∷ []

    abbrev Post : Ptr → Val → SProp 𝓤
    Post x = (walk_of 𝓛 (ended Z) (stayed Z) clauses).post (bound x)

    abbrev Said : Type 0
    Said = (capped (size τ) ≡ n) × (capped (align τ) ≡ a)

    abbrev entry : Ptr → Item 𝓤
    entry x = (‵ (flft κ q) ⊛ ‵ (flft ρ s) ⊛ ‵ ftrue) ⊛ ‵ (owns (types_at (ended Z).signature.params (bound x).0.0) (bound x).0.3 (bound x).0.4)

    -- The way out: nothing is left but the tokens.
    leaves : (x : Ptr) → ent 𝓤 (⋆ 𝓛 (‵ (flft κ q) ∷ (‵ (flft ρ s) ⊛ ‵ ftrue) ∷ [])) (Post x vunit)
    leaves x =
        qed 𝓛 (‵ (flft κ q) ∷ (‵ (flft ρ s) ⊛ ‵ ftrue) ∷ []) ∵
        suffices ! _ (ends_at 𝓛 (ended Z) (stayed Z) clauses (bound x) vunit tt (tt, (tt, (tt, (tt, tt)))) (tt, (tt, (tt, (tt, tt))))) $
        join ! $ nothing ! $ move ! (1 ∷ []) $ feq_i ! (List Val) (vunit ∷ []) (vunit ∷ []) refl $
        nothing ! $ nothing ! $ fjoin ! $ nothing ! $ fjoin ! $ nothing ! $ fjoin ! $ nothing ! $ fjoin ! $ join ! $
        -- [the parameters and the result; the tokens; nothing]
        move ! (1 ∷ 0 ∷ []) $ join ! $ done !

    -- The body: nothing is at null, and a block goes to the inner allocator with the right to free it.
    walk : n < 2 ^ 64 → a < 2 ^ 64 → (x : Ptr) → ent 𝓤 ((walk_of 𝓛 (ended Z) (stayed Z) clauses).pre (bound x)) (WpFn 𝓤 H 𝓣.C 𝓣.Λ (here Z) (vs x) (Post x))
    walk fits_n fits_a null_ptr =
        qed 𝓛 (entry null_ptr ∷ (raw (fact 𝓤 (ρ ⊑ Z.row.lives)) ⊛ raw (fact 𝓤 Said) ⊛ ‵ (fsep ffalse (token Z r.now.inner τ null_ptr))) ∷ []) ∵
        move ! (1 ∷ []) $ split3 ! $ move ! (2 ∷ []) $ fsplit ! $ keep ! (0 ∷ []) $ by ! (never_e 𝓤 _)
    walk fits_n fits_a (block_ptr b o) =
        let x : Ptr = block_ptr b o in
        let h : (Refuser Z).Denot = r.now in
        let inner : ℕ × ℕ = inner_at Z r.ref_ptr in
        let rule : ℕ × ℕ = rule_at Z r.ref_ptr in
        let freed : Frees.Ghost = at_gives Z 𝓛 at_mem run κ q inner h.inner b o n a τ in
        qed 𝓛 (entry x ∷ (raw (fact 𝓤 (ρ ⊑ Z.row.lives)) ⊛ raw (fact 𝓤 Said) ⊛ ‵ (fsep (froom τ b o) (token Z h.inner τ x))) ∷ []) ∵
        move ! (1 ∷ []) $ split3 ! $ heard ! (ρ ⊑ Z.row.lives) (λ lives. heard ! Said (λ said. fsplit ! $
        move ! (2 ∷ []) $ split ! $ split ! $ move ! (2 ∷ []) $ fsplit ! $ fsplit ! $ keep ! (1 ∷ 3 ∷ 4 ∷ 5 ∷ 6 ∷ []) $
        use1 𝓛 (‵ (seen Z κ inner h.inner) ⊛ ‵ (hidden_shr Rule κ h.refusals rule.0 rule.1)) (parts Z 𝓛 κ r.ref_ptr h) $ split ! $
        enter ! 𝓣.C 𝓣.Λ (here Z) (vs x) _ $
        alloc_all ! (λ l. pass_all ! refl ((tt, tt), ((tt, tt), ((tt, record { fits = fits_n }), ((tt, record { fits = fits_a }), tt)))) $
        -- [the `&` to the inner allocator; the `&` to what is refused; κ's token; ρ's; the block's room; its token]
        sets ! (addr ! (through ! refl (fld ! refl (stop !)))) refl (tt, tt) $
        move ! (0 ∷ 2 ∷ []) $ join ! $ move ! (4 ∷ 0 ∷ []) $ join ! $ move ! (3 ∷ 0 ∷ []) $ join ! $
        use1 𝓛 (raw (Frees.pre freed)) (Gives-goes Z 𝓛 at_mem run κ q inner h.inner (⊑_trans κ ρ Z.row.lives out lives) b o n a τ said.0 said.1 fits_n fits_a) $
        calls_at ! (fm_of 𝓤 H 𝓛.laws 𝓣) Frees inner_meets freed (and_then ! (get ! refl) (and_then ! (get ! refl) (and_then ! (get ! refl) (and_then ! (get ! refl) (no_more !))))) (λ v.
        use1 𝓛 (later (given (v ≡ vunit) (‵ (flft κ q)))) (Gives-Gives Z 𝓛 at_mem run κ q inner h.inner b o n a τ v) $ await ! tt $ learn ! (λ is_unit.
        lands_as ! is_unit refl (tt, tt) $ sets ! (of_opd ! (unit_lit !)) refl (tt, tt) $
        returns ! (look_at ! 0 refl) $ free_all ! refl $ keep ! (0 ∷ 2 ∷ []) $ by ! (leaves x))))))

-- The walk, at what the call's entry in the table hands it.
pub deallocate_spec : {M : Type 1} → stated.statement M
unfolding tables_of
deallocate_spec 𝓤 𝓛 𝓜 𝓡 wired Y L g d drops met _ =
    let Z : Al = record { row = Y; laws = L; g = g; d = d; drops = drops } in
    let 𝓣 : Tables 𝓤 𝓛.H = tables_of 𝓤 𝓛.H 𝓜 (tables 𝓤 𝓛.H 𝓜 𝓡 𝓡.env) in
    let self_goes = Goes-dropped 𝓛 2 (self Z) yes (λ κs x f. refl) in
    let block_goes = Goes-dropped 𝓛 2 (plain (λ _. RawPtr)) yes (λ κs x f. refl) in
    let size_goes = Goes-dropped 𝓛 2 (plain (λ _. usize)) yes (λ κs x f. refl) in
    let c = F.clauses Y g d drops 𝓛 𝓜.mem 𝓡.returns in
    let body = WpFn 𝓤 𝓛.H 𝓣.C 𝓣.Λ (here Z) in
    entered 𝓤 𝓛.H (triple_of 𝓛 (F.signature Y) (F.spec Y g d drops 𝓛 𝓜.mem 𝓡.returns)) 𝓣.C 𝓣.Λ (key.name (args Z)) (here Z) (code.unfolded 𝓤 𝓛.H 𝓜 𝓡 wired (Y, tt) d drops)
    (walk_Meets 𝓛 (ended Z) (stayed Z) (self_goes, (block_goes, (size_goes, (size_goes, tt)))) c body (WpFn-mono 𝓤 𝓛.H 𝓛.laws 𝓣 (here Z))
    (walked 𝓛 (ended Z) (stayed Z) c body (λ κs. (shr_vals, (rawptr_vals, (uint_vals w64, (uint_vals w64, tt)))))
    (λ κs. ((λ r vs is. is.0), (rawptr_Tells, (uint_Tells w64, (uint_Tells w64, tt)))))
    (λ κs qs bounds a τ are.
    walk Z 𝓛 𝓜.mem 𝓡.returns 𝓣 (met.deallocate drops) κs.0 κs.1.0 qs.0 qs.1.0 bounds.0 a.0 a.1.1.0 a.1.1.1.0 τ are.1.1.0.1 are.1.1.1.0.1 a.1.0)))
