-- A list that is written item by item.
use Rattle.std.proofs.Common.{◌≡◌, ℕ, suc, ◌+◌, ◌<◌, List, [], ◌∷◌, ◌++◌, length, drop, get_or, refl, sym, ◌∙◌, ap, subst, arith, append_assoc, append-nil}
use Rattle.std.specs.Prelude.{Option, Some, None, Ok}
use Rattle.std.specs.Option.{unwrap_or}
use Rattle.std.specs.Fmt.{HasWritten, IsPlainFormatter, DisplaysOnOk, WritesOnOk, debug_items, comma_space, ◌++?◌}
use Rattle.std.specs.declared.fmt.Formatter.{Formatter}
use Rattle.std.proofs.Output.{has_written_append, has_written_of_eq}
use Rattle.std.proofs.Math.Seq.{drop-cons}

-- where the whole text is known, g is f after writing some of it, and the rest is that of the items that are left
pub record WritesSoFar {W X : Type 0} (took : W → List ℕ → W → Type 0) (text : X → Option (List ℕ)) (xs items : List X) (lead : List ℕ) (f g : Formatter W) : Type 0 where
  pub at : (bs : List ℕ) → debug_items text [] xs ≡ Some bs → IsPlainFormatter f
      → (done : List ℕ) × (rest : List ℕ) × HasWritten took f done g × (debug_items text lead items ≡ Some rest) × (done ++ rest ≡ bs)

-- texts that are known and the same
same_text : (a b : List ℕ) → Some a ≡ Some b → a ≡ b
same_text a b e = ap (λ o. unwrap_or o []) e

-- an unknown text is none that is known
none_is_not_some : (a : List ℕ) → None ≡ Some a → ⊥
none_is_not_some a e = cc

-- the items from a position on are the item there and the items after it
pub dropped_at : {X : Type 0} (xs : List X) (i : ℕ) (x : X) → i < length xs → x ≡ get_or xs i x → drop i xs ≡ x ∷ drop (i + 1) xs
dropped_at xs i x within is = let e : suc i ≡ i + 1 = omega arith in drop-cons xs i x within ∙ (ap (λ y. y ∷ drop (suc i) xs) (sym is) ∙ ap (λ n. x ∷ drop n xs) e)

module _ {W X : Type 0} (took : W → List ℕ → W → Type 0) (text : X → Option (List ℕ)) (xs : List X) where
  -- before the first item nothing is written
  pub WritesSoFar_none : (f : Formatter W) → WritesSoFar took text xs xs [] f f
  WritesSoFar_none f = record { at = λ bs whole plain. ([], bs, record { wrote = record { parts = []; calls = refl; whole = refl }; plain = plain }, whole, refl) }

  -- the lead and the text of one item more
  item_more : (lead t u : List ℕ) (bs : List ℕ) (f g h k : Formatter W) (done rest : List ℕ) → HasWritten took f done g → WritesOnOk took g (Ok tt) lead h → WritesOnOk took h (Ok tt) t k
      → Some (lead ++ (t ++ u)) ≡ Some rest → done ++ rest ≡ bs → HasWritten took f (done ++ (lead ++ t)) k × ((done ++ (lead ++ t)) ++ u ≡ bs)
  item_more lead t u bs f g h k done rest wrote one two e whole =
      let a = one wrote.plain refl in
      let b = two a.plain refl in (
        has_written_append took f done g (lead ++ t) k wrote (has_written_append took g lead h t k a b),
        append_assoc done (lead ++ t) u ∙ (ap (λ r. done ++ r) (append_assoc lead t u ∙ same_text (lead ++ (t ++ u)) rest e) ∙ whole),
      )

  -- one item more, whose text x follows the lead
  pub WritesSoFar_more : (items left : List X) (lead : List ℕ) (x : X) (f g h k : Formatter W) → items ≡ x ∷ left → WritesSoFar took text xs items lead f g
      → WritesOnOk took g (Ok tt) lead h → DisplaysOnOk took h (Ok tt) (text x) k → WritesSoFar took text xs left comma_space f k
  WritesSoFar_more items left lead x f g h k dropped so_far wrote_lead wrote_item = record { at = λ bs whole plain. go bs (so_far.at bs whole plain) (text x) refl (debug_items text comma_space left) refl }
    where
      go : (bs : List ℕ) → (done : List ℕ) × (rest : List ℕ) × HasWritten took f done g × (debug_items text lead items ≡ Some rest) × (done ++ rest ≡ bs)
          → (o : Option (List ℕ)) → text x ≡ o → (p : Option (List ℕ)) → debug_items text comma_space left ≡ p
          → (done : List ℕ) × (rest : List ℕ) × HasWritten took f done k × (debug_items text comma_space left ≡ Some rest) × (done ++ rest ≡ bs)
      go bs b None e q r = absurd (none_is_not_some b.1 (ap (λ o. Some lead ++? o ++? debug_items text comma_space left) (sym e) ∙ (sym (ap (debug_items text lead) dropped) ∙ b.3)))
      go bs b (Some t) e None r = absurd (none_is_not_some b.1 (ap (λ o. Some lead ++? Some t ++? o) (sym r) ∙ (ap (λ o. Some lead ++? o ++? debug_items text comma_space left) (sym e) ∙ (sym (ap (debug_items text lead) dropped) ∙ b.3))))
      go bs b (Some t) e (Some u) r =
          let all = ap (λ o. Some lead ++? Some t ++? o) (sym r) ∙ (ap (λ o. Some lead ++? o ++? debug_items text comma_space left) (sym e) ∙ (sym (ap (debug_items text lead) dropped) ∙ b.3)) in
          let m = item_more lead t u bs f g h k b.0 b.1 b.2 wrote_lead (subst (λ o. DisplaysOnOk took h (Ok tt) o k) e wrote_item) all b.4 in
          (b.0 ++ (lead ++ t), u, m.0, r, m.1)

  -- after the last item the whole text is written
  pub WritesSoFar_all : (items : List X) (lead : List ℕ) (f g : Formatter W) → items ≡ [] → WritesSoFar took text xs items lead f g → DisplaysOnOk took f (Ok tt) (debug_items text [] xs) g
  WritesSoFar_all items lead f g past so_far = go (debug_items text [] xs) refl
    where
      go : (o : Option (List ℕ)) → debug_items text [] xs ≡ o → DisplaysOnOk took f (Ok tt) o g
      go None e = tt
      go (Some bs) e = λ plain ok.
          let a = so_far.at bs e plain in
          let ended : [] ≡ a.1 = same_text [] a.1 (sym (ap (debug_items text lead) past) ∙ a.3) in
          has_written_of_eq took f a.0 bs g (sym (append-nil a.0) ∙ (ap (λ r. a.0 ++ r) ended ∙ a.4)) a.2
