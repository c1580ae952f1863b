use Rattle.std.proofs.Common.{◌≡◌, ℕ, ◌∙◌, subst, sym}
use Rattle.std.specs.Prelude.{IfErr, IfOk, nat_eq}
use Rattle.std.specs.Cmp.Lexicographic.{pointwise, slice_cmp}
use Rattle.std.specs.Ordering.{nat_cmp}
use Rattle.commonware_utils.specs.Codec.{Bounds}
use Rattle.judge_questions.specs.Limits.{full}
use Rattle.judge_verdicts.specs.Builds.{IsBiMapBuilt, IsMapBuilt, MayFailToAllocateToBuild}
use Rattle.judge_verdicts.specs.Collections.{IsBuilt, lists_of}
use Rattle.judge_verdicts.specs.Columns.{columns_of}
use Rattle.judge_verdicts.specs.Readings.{a_byte, a_member, a_u64, set_of}
use Rattle.judge_verdicts.specs.Whole.{items_of}
use Rattle.judge_verdicts.proofs.collections.build.Goals as goal

pub returns-in-Set-clause-memory : goal.returns-in-Set-clause-memory
returns-in-Set-clause-memory g c =
    subst (λ collection. IfErr c.build_form.result (λ _. MayFailToAllocateToBuild (lists_of collection) c.args.text.now)) (sym c.in-Set.is) c.build_form.ensures.memory

pub returns-in-MapU8U8-clause-built : goal.returns-in-MapU8U8-clause-built
returns-in-MapU8U8-clause-built g c =
    let all : c.range-all.result ≡ full = c.range-all.ensures ∙ c.full.ensures in
    subst (λ collection. IfOk c.build_map.result (λ built. IsBuilt collection c.args.unique c.args.text.now (items_of built))) (sym c.in-MapU8U8.is) (subst (λ (r : Bounds ℕ). IfOk c.build_map.result (λ built. IsMapBuilt c.args.unique r a_byte a_byte nat_eq nat_cmp c.args.text.now (items_of built))) all c.build_map.ensures.built)

pub returns-in-MapU8U8-clause-memory : goal.returns-in-MapU8U8-clause-memory
returns-in-MapU8U8-clause-memory g c =
    let all : c.range-all.result ≡ full = c.range-all.ensures ∙ c.full.ensures in
    subst (λ collection. IfErr c.build_map.result (λ _. MayFailToAllocateToBuild (lists_of collection) c.args.text.now)) (sym c.in-MapU8U8.is) (subst (λ (r : Bounds ℕ). IfErr c.build_map.result (λ _. MayFailToAllocateToBuild (columns_of r a_byte a_byte) c.args.text.now)) all c.build_map.ensures.memory)

pub returns-in-MapU8SetU8-clause-built : goal.returns-in-MapU8SetU8-clause-built
returns-in-MapU8SetU8-clause-built g c =
    let all : c.range-all.result ≡ full = c.range-all.ensures ∙ c.full.ensures in
    subst (λ collection. IfOk c.build_map-in-MapU8SetU8.result (λ built. IsBuilt collection c.args.unique c.args.text.now (items_of built))) (sym c.in-MapU8SetU8.is) (subst (λ (r : Bounds ℕ). IfOk c.build_map-in-MapU8SetU8.result (λ built. IsMapBuilt c.args.unique r a_byte (set_of r a_byte nat_cmp) nat_eq nat_cmp c.args.text.now (items_of built))) all c.build_map-in-MapU8SetU8.ensures.built)

pub returns-in-MapU8SetU8-clause-memory : goal.returns-in-MapU8SetU8-clause-memory
returns-in-MapU8SetU8-clause-memory g c =
    let all : c.range-all.result ≡ full = c.range-all.ensures ∙ c.full.ensures in
    subst (λ collection. IfErr c.build_map-in-MapU8SetU8.result (λ _. MayFailToAllocateToBuild (lists_of collection) c.args.text.now)) (sym c.in-MapU8SetU8.is) (subst (λ (r : Bounds ℕ). IfErr c.build_map-in-MapU8SetU8.result (λ _. MayFailToAllocateToBuild (columns_of r a_byte (set_of r a_byte nat_cmp)) c.args.text.now)) all c.build_map-in-MapU8SetU8.ensures.memory)

pub returns-in-MapMemberU8-clause-built : goal.returns-in-MapMemberU8-clause-built
returns-in-MapMemberU8-clause-built g c =
    let all : c.range-all.result ≡ full = c.range-all.ensures ∙ c.full.ensures in
    subst (λ collection. IfOk c.build_map-in-MapMemberU8.result (λ built. IsBuilt collection c.args.unique c.args.text.now (items_of built))) (sym c.in-MapMemberU8.is) (subst (λ (r : Bounds ℕ). IfOk c.build_map-in-MapMemberU8.result (λ built. IsMapBuilt c.args.unique r a_member a_byte (pointwise nat_eq) (slice_cmp nat_cmp) c.args.text.now (items_of built))) all c.build_map-in-MapMemberU8.ensures.built)

pub returns-in-MapMemberU8-clause-memory : goal.returns-in-MapMemberU8-clause-memory
returns-in-MapMemberU8-clause-memory g c =
    let all : c.range-all.result ≡ full = c.range-all.ensures ∙ c.full.ensures in
    subst (λ collection. IfErr c.build_map-in-MapMemberU8.result (λ _. MayFailToAllocateToBuild (lists_of collection) c.args.text.now)) (sym c.in-MapMemberU8.is) (subst (λ (r : Bounds ℕ). IfErr c.build_map-in-MapMemberU8.result (λ _. MayFailToAllocateToBuild (columns_of r a_member a_byte) c.args.text.now)) all c.build_map-in-MapMemberU8.ensures.memory)

pub returns-in-MapMemberU64-clause-built : goal.returns-in-MapMemberU64-clause-built
returns-in-MapMemberU64-clause-built g c =
    let all : c.range-all.result ≡ full = c.range-all.ensures ∙ c.full.ensures in
    subst (λ collection. IfOk c.build_map-in-MapMemberU64.result (λ built. IsBuilt collection c.args.unique c.args.text.now (items_of built))) (sym c.in-MapMemberU64.is) (subst (λ (r : Bounds ℕ). IfOk c.build_map-in-MapMemberU64.result (λ built. IsMapBuilt c.args.unique r a_member a_u64 (pointwise nat_eq) (slice_cmp nat_cmp) c.args.text.now (items_of built))) all c.build_map-in-MapMemberU64.ensures.built)

pub returns-in-MapMemberU64-clause-memory : goal.returns-in-MapMemberU64-clause-memory
returns-in-MapMemberU64-clause-memory g c =
    let all : c.range-all.result ≡ full = c.range-all.ensures ∙ c.full.ensures in
    subst (λ collection. IfErr c.build_map-in-MapMemberU64.result (λ _. MayFailToAllocateToBuild (lists_of collection) c.args.text.now)) (sym c.in-MapMemberU64.is) (subst (λ (r : Bounds ℕ). IfErr c.build_map-in-MapMemberU64.result (λ _. MayFailToAllocateToBuild (columns_of r a_member a_u64) c.args.text.now)) all c.build_map-in-MapMemberU64.ensures.memory)

pub returns-in-BiMapU8U8-clause-built : goal.returns-in-BiMapU8U8-clause-built
returns-in-BiMapU8U8-clause-built g c =
    let all : c.range-all.result ≡ full = c.range-all.ensures ∙ c.full.ensures in
    subst (λ collection. IfOk c.build_bimap.result (λ built. IsBuilt collection c.args.unique c.args.text.now (items_of built))) (sym c.in-BiMapU8U8.is) (subst (λ (r : Bounds ℕ). IfOk c.build_bimap.result (λ built. IsBiMapBuilt r a_byte a_byte nat_eq nat_cmp nat_eq c.args.text.now (items_of built))) all c.build_bimap.ensures.built)

pub returns-in-BiMapU8U8-clause-memory : goal.returns-in-BiMapU8U8-clause-memory
returns-in-BiMapU8U8-clause-memory g c =
    let all : c.range-all.result ≡ full = c.range-all.ensures ∙ c.full.ensures in
    subst (λ collection. IfErr c.build_bimap.result (λ _. MayFailToAllocateToBuild (lists_of collection) c.args.text.now)) (sym c.in-BiMapU8U8.is) (subst (λ (r : Bounds ℕ). IfErr c.build_bimap.result (λ _. MayFailToAllocateToBuild (columns_of r a_byte a_byte) c.args.text.now)) all c.build_bimap.ensures.memory)

pub returns-in-BiMapMemberMember-clause-built : goal.returns-in-BiMapMemberMember-clause-built
returns-in-BiMapMemberMember-clause-built g c =
    let all : c.range-all.result ≡ full = c.range-all.ensures ∙ c.full.ensures in
    subst (λ collection. IfOk c.build_bimap-in-BiMapMemberMember.result (λ built. IsBuilt collection c.args.unique c.args.text.now (items_of built))) (sym c.in-BiMapMemberMember.is) (subst (λ (r : Bounds ℕ). IfOk c.build_bimap-in-BiMapMemberMember.result (λ built. IsBiMapBuilt r a_member a_member (pointwise nat_eq) (slice_cmp nat_cmp) (pointwise nat_eq) c.args.text.now (items_of built))) all c.build_bimap-in-BiMapMemberMember.ensures.built)

pub returns-in-BiMapMemberMember-clause-memory : goal.returns-in-BiMapMemberMember-clause-memory
returns-in-BiMapMemberMember-clause-memory g c =
    let all : c.range-all.result ≡ full = c.range-all.ensures ∙ c.full.ensures in
    subst (λ collection. IfErr c.build_bimap-in-BiMapMemberMember.result (λ _. MayFailToAllocateToBuild (lists_of collection) c.args.text.now)) (sym c.in-BiMapMemberMember.is) (subst (λ (r : Bounds ℕ). IfErr c.build_bimap-in-BiMapMemberMember.result (λ _. MayFailToAllocateToBuild (columns_of r a_member a_member) c.args.text.now)) all c.build_bimap-in-BiMapMemberMember.ensures.memory)
