-- The parts of a certificate's bytes.
use Rattle.std.proofs.Common.{◌≡◌, ◌∙◌, ℕ, ◌+◌, ◌<◌, ◌≤◌, List, [], ◌∷◌, ◌++◌, length, take, get_or, arith, ap, sym, length-append}
use Rattle.std.specs.List.{flat_map}
use Rattle.std.proofs.lemmas.List.{append_assoc, flat_map_more, take_more}
use Rattle.commonware_base.proofs.ByteSteps.{bytes_join}
use Rattle.commonware_base.specs.Varint.{varint}
use Rattle.commonware_base.specs.laws.VarintLaws.{groups_not_empty}
use Rattle.committee_certificates.specs.Certificates.{certificate_enc}

-- the bytes of one more index
pub indices_more : (xs : List ℕ) (i : ℕ) → i < length xs
    → flat_map varint (take i xs) ++ varint (get_or xs i 0) ≡ flat_map varint (take (i + 1) xs)
indices_more xs i h =
    flat_map_more varint [] (take i xs) (get_or xs i 0) ∙ ap (flat_map varint) (sym (take_more xs i 0 h))

module _ (value signers : List ℕ) where
  -- the bytes up to the signers
  abbrev pub before_signers : List ℕ
  before_signers = (varint (length value) ++ value) ++ varint (length signers)

  -- the value's length, the value, the number of signers, and the signers
  pub encoded_as : certificate_enc (value, signers) ≡ before_signers ++ flat_map varint signers
  encoded_as =
      ap (λ b. (varint (length value) ++ b) ++ (varint (length signers) ++ flat_map varint signers)) (bytes_join value)
      ∙ sym (append_assoc (varint (length value) ++ value) (varint (length signers)) (flat_map varint signers))

  -- how many bytes that is
  pub encoded_length : length (certificate_enc (value, signers))
      ≡ length (varint (length value)) + length value + length (varint (length signers)) + length (flat_map varint signers)
  encoded_length =
      let all = length-append before_signers (flat_map varint signers) in
      let counted = length-append (varint (length value) ++ value) (varint (length signers)) in
      let valued = length-append (varint (length value)) value in
      ap length encoded_as ∙ omega (arith, all, counted, valued)

-- a varint has a byte
pub varint_some : (n : ℕ) → 0 < length (varint n)
unfolding varint
varint_some n = groups_not_empty 4 n

-- so there are no more indices than bytes
indices_fewer : (xs : List ℕ) → length xs ≤ length (flat_map varint xs)
indices_fewer [] = omega arith
indices_fewer (x ∷ xs) =
    let n = length-append (varint x) (flat_map varint xs) in
    omega (arith, n, varint_some x, indices_fewer xs)

-- nor than bytes of an input that begins with their certificate
pub signers_fewer : (value signers s rest : List ℕ) → s ≡ certificate_enc (value, signers) ++ rest → length signers ≤ length s
signers_fewer value signers s rest begins =
    let n = length-append (certificate_enc (value, signers)) rest in
    omega (arith, n, ap length begins, encoded_length value signers, indices_fewer signers)
