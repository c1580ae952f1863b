use Rattle.std.proofs.Common.{◌≡◌, ◌∙◌, ◌+◌, ◌*◌, ◌<◌, ◌++◌, length, refl, sym, ap, subst}
use Rattle.std.specs.List.{flat_map}
use Rattle.std.specs.Simd.{first_chunks}
use Rattle.commonware_base.proofs.ReadSteps.{list_faulty, read_outside}
use Rattle.commonware_base.proofs.SourceLemmas.{consumes_both, consumes_front}
use Rattle.commonware_base.specs.Lists.{list_enc}
use Rattle.commonware_base.specs.Varint.{varint}
use Rattle.commonware_base.specs.laws.ItemsLaws.{items_lack}
use Rattle.commonware_base.specs.Range.{Within}
use Rattle.commonware_base.specs.Source.{Consumes, position_of, rest_of}
use Rattle.commonware_base.specs.laws.SourceLaws.{rest_bytes}
use Rattle.commonware_sequence.specs.laws.FixedBytesLaws.{fixed_laws}
use Rattle.commonware_sequence.specs.FixedBytes.{IsOfSize, own_bytes, size_fault}
use Rattle.commonware_views.specs.Lists.{IsListOf}
use Rattle.commonware_views.proofs.Cut.{cut_allowed, cut_writable, cut_long, items_cut, cut_flat, cut_number}
use Rattle.commonware_views.proofs.list.next_list.Goals as goal

pub returns-then-not-contains-clause-refused : goal.returns-then-not-contains-clause-refused
returns-then-not-contains-clause-refused c =
    let outside : ¬ Within c.args.range c.in_ok-count.field-0 = λ w. cc (c.if-not-contains.ensures.1 w) in
    read_outside own_bytes (IsOfSize c.args.size) (λ _. Unit {0}) c.args.range c.in_ok-count.field-0 c.args.src.now (size_fault c.args.size) (λ _. Unit {0})
    c.read_varint.new.src c.in_ok-count.ensures.fits outside c.in_ok-count.ensures.consumed

pub returns-in_default-clause-refused : goal.returns-in_default-clause-refused
returns-in_default-clause-refused c =
    let size = c.args.size in
    let within : Within c.args.range c.in_ok-count.field-0 = c.if-not-contains.ensures.0 refl in
    let count = c.in_ok-count.field-0 in
    let now = c.read_varint.new.src in
    let fewer : length (rest_of now) < count * size = c.in_default.ensures.none in
    list_faulty own_bytes (IsOfSize size) (λ _. Unit {0}) c.args.range count c.args.src.now now
    c.in_ok-count.ensures.fits c.in_ok-count.ensures.consumed (size_fault size) (λ _. Unit {0}) within _
    (items_lack own_bytes (IsOfSize size) (size_fault size) size (λ v w. w.count) (λ s f w. w) (fixed_laws size).accepted_or_faulty count (rest_of now) (rest_bytes now) fewer)

pub returns-clause-consumed : goal.returns-clause-consumed
returns-clause-consumed c =
    let size = c.args.size in
    let count = c.in_ok-count.field-0 in
    let start = c.args.src.now in
    let now = c.read_varint.new.src in
    let next = c.advance.new.self in
    let enough = c.in-Some.ensures.enough in
    let items = items_cut size count start now enough in
    let long = ap length c.in-Some.ensures.bytes ∙ cut_long size count start now enough in
    let on = consumes_front now next (count * size) (flat_map own_bytes items) c.advance.ensures.bytes
    (c.advance.ensures.position ∙ ap (λ n. position_of now + n) long) enough (sym (cut_flat size count start now enough)) in
    let both = consumes_both start now next (varint count) (flat_map own_bytes items) c.in_ok-count.ensures.consumed on in
    let said : Consumes start next (list_enc own_bytes items) =
    subst (λ n. Consumes start next (varint n ++ flat_map own_bytes items)) (sym (cut_number size count start now enough)) both in
    subst (λ k. Consumes start next (list_enc own_bytes (first_chunks size count k))) (sym c.in-Some.ensures.bytes) said

pub returns-clause-accepted : goal.returns-clause-accepted
returns-clause-accepted c =
    let size = c.args.size in
    let within : Within c.args.range c.in_ok-count.field-0 = c.if-not-contains.ensures.0 refl in
    let count = c.in_ok-count.field-0 in
    let start = c.args.src.now in
    let now = c.read_varint.new.src in
    let enough = c.in-Some.ensures.enough in
    let items = items_cut size count start now enough in
    let said : (rest_of start ≡ list_enc own_bytes items ++ rest_of c.advance.new.self) → IsListOf size c.args.range (rest_of start) items (rest_of c.advance.new.self) = λ begins. record {
      writable = cut_writable size count start now enough c.in_ok-count.ensures.fits;
      allowed = cut_allowed size count start now enough c.args.range within;
      begins = begins;
    } in
    let same = sym c.in-Some.ensures.bytes in
    let consumed : Consumes start c.advance.new.self (list_enc own_bytes items) = subst (λ k. Consumes start c.advance.new.self (list_enc own_bytes (first_chunks size count k))) c.in-Some.ensures.bytes (returns-clause-consumed c) in
    subst (λ k. IsListOf size c.args.range (rest_of start) (first_chunks size count k) (rest_of c.advance.new.self)) same (said consumed.rest)
