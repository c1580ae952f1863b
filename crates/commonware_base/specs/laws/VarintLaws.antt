-- Laws of varints.
use Rattle.std.proofs.Common.{◌≡◌, ℕ, zero, suc, ◌+◌, ◌*◌, ◌/◌, ◌%◌, ◌^◌, ◌<◌, ◌≤◌, List, [], ◌∷◌, ◌++◌, length, refl}
use Rattle.std.proofs.Common.{ap, sym, ◌∙◌, arith, inl, inr, subst, length-append, drop, take, get_or, add-one, ◌-◌}
use Rattle.std.specs.Prelude.{◌⊎◌}
use Rattle.std.proofs.lemmas.Bool.{cases_lt, lt-ltb, le-ltb}
use Rattle.std.proofs.lemmas.List.{append_assoc, take-append-drop, drop_more, length-take-le, take_more}
use Rattle.std.proofs.lemmas.List.{nil_from_length}
use Rattle.std.proofs.Math.Nat.{pow-succ'}
use Rattle.std.proofs.Math.Seq.{drop-nil}
use Rattle.commonware_base.specs.Fault.{Fault, EndOfBuffer, InvalidVarint, InvalidLength, Invalid}
use Rattle.commonware_base.specs.Text.{AreBytes}
use Rattle.commonware_base.specs.laws.TextLaws.{bytes_append}
use Rattle.commonware_base.specs.Varint.{AreContinued, groups_sum, IsVarint, groups, varint, varint_size}
use Rattle.commonware_base.specs.Varint.{IsTruncated, IsOverlongOrTooGreat, varint_fault}

-- Two lists of bytes that agree: their high bytes in prefix, and the byte after them, are the same.
pub same_front : (f g : List ℕ) (l m : ℕ) (x y : List ℕ) → AreContinued f → AreContinued g → l < 128 → m < 128
    → f ++ l ∷ x ≡ g ++ m ∷ y → (f ≡ g) × (l ≡ m) × (x ≡ y)
same_front [] [] l m x y hf hg hl hm e = (refl, cc, cc)
same_front [] (c ∷ g) l m x y hf hg hl hm e = let d : l ≡ c = cc in absurd (omega arith)
same_front (b ∷ f) [] l m x y hf hg hl hm e = let d : b ≡ m = cc in absurd (omega arith)
same_front (b ∷ f) (c ∷ g) l m x y hf hg hl hm e =
    let rest = same_front f g l m x y hf.1 hg.1 hl hm cc in
    let d : b ≡ c = cc in
    let i : f ≡ g = rest.0 in
    (cc, rest.1, rest.2)

-- A sum whose last group isn't 0 isn't 0.
sum_pos : (g : List ℕ) (m : ℕ) → 0 < m → m < 128 → 0 < groups_sum (g ++ m ∷ [])
sum_pos [] m p h = omega arith
sum_pos (c ∷ g) m p h = let r = sum_pos g m p h in omega (arith, r)

-- Two varint encodings with one sum are the same.
pub same_sum : (f g : List ℕ) (l m : ℕ) → AreContinued f → AreContinued g → l < 128 → m < 128 → (l ≡ 0 → f ≡ [])
    → (m ≡ 0 → g ≡ []) → groups_sum (f ++ l ∷ []) ≡ groups_sum (g ++ m ∷ []) → f ++ l ∷ [] ≡ g ++ m ∷ []
same_sum [] [] l m hf hg hl hm sf sg e = let d : l ≡ m = omega arith in ap (λ n. n ∷ []) d
same_sum [] (c ∷ g) l m hf hg hl hm sf sg e =
    let pos : 0 < m =
    (elim (cases_lt 0 m)
    [ inl p ↦ p | inr q ↦ (let z : m ≡ 0 = omega arith in let n : c ∷ g ≡ [] = sg z in absurd (cc)) ]) in
    let s = sum_pos g m pos hm in absurd (omega arith)
same_sum (b ∷ f) [] l m hf hg hl hm sf sg e =
    let pos : 0 < l =
    (elim (cases_lt 0 l)
    [ inl p ↦ p | inr q ↦ (let z : l ≡ 0 = omega arith in let n : b ∷ f ≡ [] = sf z in absurd (cc)) ]) in
    let s = sum_pos f l pos hl in absurd (omega arith)
same_sum (b ∷ f) (c ∷ g) l m hf hg hl hm sf sg e =
    let d : b ≡ c = omega arith in
    let r : groups_sum (f ++ l ∷ []) ≡ groups_sum (g ++ m ∷ []) = omega arith in
    let rest =
    same_sum f g l m hf.1 hg.1 hl hm (λ z. let n : b ∷ f ≡ [] = sf z in absurd (cc))
    (λ z. let n : c ∷ g ≡ [] = sg z in absurd (cc)) r in
    cc

-- A varint encoding, of any length.
record Spells (number more : ℕ) (bytes : List ℕ) : Type 0 where
  prefix : List ℕ
  last : ℕ
  bytes_are : bytes ≡ prefix ++ last ∷ []
  high : AreContinued prefix
  low : last < 128
  shortest : last ≡ 0 → prefix ≡ []
  short : length prefix ≤ more
  sum : groups_sum bytes ≡ number
  positive : 0 < number → 0 < last

-- the groups of a number encode it
spells : (more n : ℕ) → n < 128 ^ suc more → Spells n more (groups more n)
spells zero n h =
    record {
      prefix = [];
      last = n;
      bytes_are = refl;
      high = tt;
      low = omega arith;
      shortest = λ _. refl;
      short = omega arith;
      sum = omega arith;
      positive = λ p. p;
    }
spells (suc more) n h = elim (cases_lt n 128) [
  | inl p ↦ rw (lt-ltb n 128 p)
      (record {
        prefix = [];
        last = n;
        bytes_are = refl;
        high = tt;
        low = p;
        shortest = λ _. refl;
        short = omega arith;
        sum = omega arith;
        positive = λ q. q;
      })
  | inr p ↦ rw (le-ltb n 128 p) (
      let below : n / 128 < 128 ^ suc more = omega (arith, pow-succ' 128 (suc more)) in
      let rest = spells more (n / 128) below in
      let pos : 0 < rest.last = rest.positive (omega arith) in
      record {
        prefix = (n % 128 + 128) ∷ rest.prefix;
        last = rest.last;
        bytes_are = ap (λ s. (n % 128 + 128) ∷ s) rest.bytes_are;
        high = ((omega arith, omega arith), rest.high);
        low = rest.low;
        shortest = λ z. absurd (omega arith);
        short = omega (arith, rest.short);
        sum = omega (arith, rest.sum);
        positive = λ _. pos;
      })
]

-- The bytes of a number encode it.
pub varint_is : (n : ℕ) → n < 2 ^ 32 → IsVarint n (varint n)
unfolding varint
varint_is n h =
    let s = spells 4 n (omega arith) in
    record {
      prefix = s.prefix;
      last = s.last;
      bytes_are = s.bytes_are;
      high = s.high;
      low = s.low;
      shortest = s.shortest;
      short = s.short;
      sum = s.sum;
      fits = h;
    }

-- high bytes are bytes
high_bytes : (f : List ℕ) → AreContinued f → AreBytes f
high_bytes [] h = tt
high_bytes (b ∷ f) h = (omega (arith, h.0.1), high_bytes f h.1)

-- The bytes of a number are bytes.
pub varint_bytes : (n : ℕ) → n < 2 ^ 32 → AreBytes (varint n)
varint_bytes n h = let v = varint_is n h in
    subst AreBytes (sym v.bytes_are)
    (bytes_append v.prefix (v.last ∷ []) (high_bytes v.prefix v.high) (omega (arith, v.low), tt))

-- No other bytes encode it.
pub varint_only : (n : ℕ) (s : List ℕ) → IsVarint n s → s ≡ varint n
varint_only n s v =
    let w = varint_is n v.fits in
    let sv = v.bytes_are in
    let sw = w.bytes_are in
    sv ∙ same_sum v.prefix w.prefix v.last w.last v.high w.high v.low w.low v.shortest w.shortest
    (ap groups_sum (sym sv) ∙ (v.sum ∙ sym w.sum) ∙ ap groups_sum sw) ∙ sym sw

-- Where an input begins with two numbers, they are the same, and so is what follows.
pub varint_split : (m n : ℕ) (x y : List ℕ) → m < 2 ^ 32 → n < 2 ^ 32 → varint m ++ x ≡ varint n ++ y
    → (m ≡ n) × (x ≡ y)
varint_split m n x y hm hn e =
    let v = varint_is m hm in
    let w = varint_is n hn in
    let p : (v.prefix ++ v.last ∷ []) ++ x ≡ (w.prefix ++ w.last ∷ []) ++ y =
    ap (λ s. s ++ x) (sym v.bytes_are) ∙ e ∙ ap (λ s. s ++ y) w.bytes_are in
    let q : v.prefix ++ v.last ∷ x ≡ w.prefix ++ w.last ∷ y =
    sym (append_assoc v.prefix (v.last ∷ []) x) ∙ p ∙ append_assoc w.prefix (w.last ∷ []) y in
    let s = same_front v.prefix w.prefix v.last w.last x y v.high w.high v.low w.low q in
    let f : v.prefix ≡ w.prefix = s.0 in
    let l : v.last ≡ w.last = s.1 in
    let t : varint m ≡ varint n =
    v.bytes_are ∙ ap (λ g. g ++ v.last ∷ []) f ∙ ap (λ b. w.prefix ++ b ∷ []) l ∙ sym w.bytes_are in
    (sym v.sum ∙ ap groups_sum t ∙ w.sum, s.2)

-- an input that begins with a number, with its parts
parts : (s : List ℕ) (n : ℕ) (r : List ℕ) (v : IsVarint n (varint n)) → s ≡ varint n ++ r → s ≡ v.prefix ++ v.last ∷ r
parts s n r v e = e ∙ ap (λ t. t ++ r) v.bytes_are ∙ append_assoc v.prefix (v.last ∷ []) r

-- high bytes alone have no last byte
not_all_high : (f : List ℕ) (l : ℕ) (x : List ℕ) → l < 128 → AreContinued (f ++ l ∷ x) → ⊥
not_all_high [] l x h a = omega (arith, a.0.0)
not_all_high (b ∷ f) l x h a = not_all_high f l x h a.1

-- Two lists of bytes that agree: up to the first byte below 128, or the fifth.
same_wrong : (f g : List ℕ) (l m : ℕ) (x y : List ℕ) → AreContinued f → AreContinued g → l < 128
    → f ++ l ∷ x ≡ g ++ m ∷ y → length f ≤ length g → (f ≡ g) × (l ≡ m)
same_wrong [] [] l m x y hf hg hl e h = (refl, cc)
same_wrong [] (c ∷ g) l m x y hf hg hl e h = let d : l ≡ c = cc in absurd (omega arith)
same_wrong (b ∷ f) [] l m x y hf hg hl e h = absurd (omega arith)
same_wrong (b ∷ f) (c ∷ g) l m x y hf hg hl e h =
    let rest = same_wrong f g l m x y hf.1 hg.1 hl (cc) (omega arith) in
    let d : b ≡ c = cc in
    let i : f ≡ g = rest.0 in
    (cc, rest.1)

-- A number of five bytes below 2 ^ 32 has a last byte of at most 15.
last_of_five : (f : List ℕ) (l : ℕ) → length f ≡ 4 → l < 128 → groups_sum (f ++ l ∷ []) < 2 ^ 32 → l ≤ 15
last_of_five [] l e h s = absurd (omega arith)
last_of_five (a ∷ []) l e h s = absurd (omega arith)
last_of_five (a ∷ b ∷ []) l e h s = absurd (omega arith)
last_of_five (a ∷ b ∷ c ∷ []) l e h s = absurd (omega arith)
last_of_five (a ∷ b ∷ c ∷ d ∷ []) l e h s = omega arith
last_of_five (a ∷ b ∷ c ∷ d ∷ k ∷ f) l e h s = absurd (omega arith)

-- An input that begins with a number has no fault.
pub varint_no_fault : (s : List ℕ) (n : ℕ) (r : List ℕ) (f : Fault) → n < 2 ^ 32 → s ≡ varint n ++ r → varint_fault s f
    → ⊥
varint_no_fault s n r EndOfBuffer h e w =
    let v = varint_is n h in
    not_all_high v.prefix v.last r v.low (subst AreContinued (parts s n r v e) w.high)
varint_no_fault s n r InvalidVarint h e w =
    let v = varint_is n h in
    let p : v.prefix ++ v.last ∷ r ≡ w.prefix ++ w.last ∷ w.rest = sym (parts s n r v e) ∙ w.begins in
    let sum : groups_sum (v.prefix ++ v.last ∷ []) < 2 ^ 32 =
    subst (λ m. m < 2 ^ 32) (sym (ap groups_sum (sym v.bytes_are) ∙ v.sum)) h in
    elim w.wrong [
      | inl z ↦ (let low : w.last < 128 = omega (arith, z.0) in
          let q = same_front v.prefix w.prefix v.last w.last r w.rest v.high w.high v.low low p in
          let nil : v.prefix ≡ [] = v.shortest (q.1 ∙ z.0) in
          let nil' : length w.prefix ≡ 0 = ap length (sym q.0 ∙ nil) in
          omega (arith, z.1, nil'))
      | inr z ↦
          (let q =
          same_wrong v.prefix w.prefix v.last w.last r w.rest v.high w.high v.low p (omega (arith, v.short, z.0))
          in
          let four : length v.prefix ≡ 4 = ap length q.0 ∙ z.0 in
          let small = last_of_five v.prefix v.last four v.low sum in
          let same : v.last ≡ w.last = q.1 in
          omega (arith, z.1, small))
    ]
varint_no_fault s n r (InvalidLength k) h e w = w
varint_no_fault s n r (Invalid what why) h e w = w

-- A truncated input has no byte that ends a number, and no fifth.
truncated_not_overlong : (s : List ℕ) → IsTruncated s → IsOverlongOrTooGreat s → ⊥
truncated_not_overlong s c w =
    let a : AreContinued (w.prefix ++ w.last ∷ w.rest) = subst AreContinued w.begins c.high in
    let n : length s ≡ length (w.prefix ++ w.last ∷ w.rest) = ap length w.begins in
    elim w.wrong [
      | inl z ↦ not_all_high w.prefix w.last w.rest (omega (arith, z.0)) a
      | inr z ↦ omega (arith, c.short, n, z.0, length-append w.prefix (w.last ∷ w.rest))
    ]

-- An input has at most one fault.
pub varint_one_fault : (s : List ℕ) (f g : Fault) → varint_fault s f → varint_fault s g → f ≡ g
varint_one_fault s EndOfBuffer EndOfBuffer p q = refl
varint_one_fault s EndOfBuffer InvalidVarint p q = absurd (truncated_not_overlong s p q)
varint_one_fault s InvalidVarint EndOfBuffer p q = absurd (truncated_not_overlong s q p)
varint_one_fault s InvalidVarint InvalidVarint p q = refl
varint_one_fault s (InvalidLength k) g p q = absurd p
varint_one_fault s (Invalid a b) g p q = absurd p
varint_one_fault s EndOfBuffer (InvalidLength k) p q = absurd q
varint_one_fault s EndOfBuffer (Invalid a b) p q = absurd q
varint_one_fault s InvalidVarint (InvalidLength k) p q = absurd q
varint_one_fault s InvalidVarint (Invalid a b) p q = absurd q

-- The first byte below 128, where it is among the first more + 1.
pub record Stops (more : ℕ) (s : List ℕ) : Type 0 where
  pub prefix : List ℕ
  pub last : ℕ
  pub rest : List ℕ
  pub begins : s ≡ prefix ++ last ∷ rest
  pub high : AreContinued prefix
  pub short : length prefix ≤ more
  pub stops : (last < 128) ⊎ (length prefix ≡ more)

-- a list of bytes is high and short, or it stops
pub stop_of : (more : ℕ) (s : List ℕ) → AreBytes s → (AreContinued s × (length s ≤ more)) ⊎ Stops more s
stop_of more [] h = inl (tt, omega arith)
stop_of zero (b ∷ s) h =
    inr (record { prefix = []; last = b; rest = s; begins = refl; high = tt; short = omega arith; stops = inr refl })
stop_of (suc more) (b ∷ s) h = elim (cases_lt b 128) [
  | inl p ↦ inr
      (record { prefix = []; last = b; rest = s; begins = refl; high = tt; short = omega arith; stops = inl p })
  | inr p ↦ elim (stop_of more s h.1) [
    | inl a ↦ inl (((p, h.0), a.0), omega (arith, a.1))
    | inr w ↦ inr (record {
      prefix = b ∷ w.prefix;
      last = w.last;
      rest = w.rest;
      begins = ap (λ t. b ∷ t) w.begins;
      high = ((p, h.0), w.high);
      short = omega (arith, w.short);
      stops = elim w.stops [ inl q ↦ inl q | inr q ↦ inr (ap suc q) ];
    })
  ]
]

-- Five bytes with a last one of at most 15, or fewer, make a number below 2 ^ 32.
sum_fits : (f : List ℕ) (l : ℕ) → length f ≤ 4 → l < 128 → (length f ≡ 4 → l ≤ 15) → groups_sum (f ++ l ∷ []) < 2 ^ 32
sum_fits [] l e h s = omega arith
sum_fits (a ∷ []) l e h s = omega arith
sum_fits (a ∷ b ∷ []) l e h s = omega arith
sum_fits (a ∷ b ∷ c ∷ []) l e h s = omega arith
sum_fits (a ∷ b ∷ c ∷ d ∷ []) l e h s = let p : l ≤ 15 = s refl in omega arith
sum_fits (a ∷ b ∷ c ∷ d ∷ k ∷ f) l e h s = absurd (omega arith)

-- An input that stops is a number or has the fault.
pub number_of : (s : List ℕ) (prefix : List ℕ) (last : ℕ) (rest : List ℕ)
    → s ≡ prefix ++ last ∷ rest → AreContinued prefix
    → length prefix ≤ 4 → (last < 128) ⊎ (length prefix ≡ 4) →
    ((n : ℕ) × (n ≡ groups_sum (prefix ++ last ∷ [])) × IsVarint n (prefix ++ last ∷ [])) ⊎ IsOverlongOrTooGreat s
number_of s prefix last rest begins high short stops = elim (cases_lt 0 last) [
  | inr z ↦ (let zero' : last ≡ 0 = omega arith in elim (cases_lt 0 (length prefix)) [
    | inl p ↦ inr (invalid_varint (inl (zero', p, short)))
    | inr p ↦ inl (good (omega arith) (λ _. nil_of prefix (omega arith)) (λ four. omega arith))
  ])
  | inl p ↦ elim (cases_lt 15 last) [
    | inr q ↦ inl (good (omega arith) (λ z. absurd (omega arith)) (λ _. q))
    | inl q ↦ elim (cases_lt (length prefix) 4) [
      | inl t ↦ inl
          (good (elim stops [ inl a ↦ a | inr a ↦ absurd (omega arith) ]) (λ z. absurd (omega arith))
          (λ four. absurd (omega arith)))
      | inr t ↦ inr (invalid_varint (inr (omega arith, q)))
    ]
  ]
]
  where
    nil_of : (f : List ℕ) → length f ≡ 0 → f ≡ []
    nil_of [] e = refl
    nil_of (b ∷ f) e = absurd (omega arith)

    invalid_varint : ((last ≡ 0) × (0 < length prefix) × (length prefix ≤ 4)) ⊎ ((length prefix ≡ 4) × (15 < last))
        → IsOverlongOrTooGreat s
    invalid_varint wrong =
        record { prefix = prefix; last = last; rest = rest; begins = begins; high = high; wrong = wrong }

    good : last < 128 → (last ≡ 0 → prefix ≡ []) → (length prefix ≡ 4 → last ≤ 15)
        → (n : ℕ) × (n ≡ groups_sum (prefix ++ last ∷ [])) × IsVarint n (prefix ++ last ∷ [])
    good low shortest five = (
      groups_sum (prefix ++ last ∷ []),
      refl,
      record {
        prefix = prefix;
        last = last;
        bytes_are = refl;
        high = high;
        low = low;
        shortest = shortest;
        short = short;
        sum = refl;
        fits = sum_fits prefix last short low five;
      },
    )

-- An input begins with a number or has a fault.
pub varint_or_fault : (s : List ℕ) → AreBytes s
    → ((n : ℕ) × (r : List ℕ) × (n < 2 ^ 32) × (s ≡ varint n ++ r)) ⊎ ((f : Fault) × varint_fault s f)
varint_or_fault s h = elim (stop_of 4 s h) [
  | inl a ↦ inr (EndOfBuffer, record { high = a.0; short = a.1 })
  | inr w ↦ elim (number_of s w.prefix w.last w.rest w.begins w.high w.short w.stops) [
    | inl v ↦ inl (
      v.0,
      w.rest,
      v.2.fits,
      w.begins ∙ sym (append_assoc w.prefix (w.last ∷ []) w.rest)
          ∙ ap (λ t. t ++ w.rest) (varint_only v.0 _ v.2),
    )
    | inr b ↦ inr (InvalidVarint, b)
  ]
]

-- The number is encoded by sofar and then by the groups of what is left.
pub record Goes (number left : ℕ) (sofar : List ℕ) : Type 0 where
  pub more : ℕ
  pub below : left < 128 ^ suc more
  pub text : varint number ≡ sofar ++ groups more left

-- at the start nothing is encoded
pub goes_start : (n : ℕ) → n < 2 ^ 32 → Goes n n []
unfolding varint
goes_start n h = record { more = 4; below = omega arith; text = refl }

-- one more group is encoded
pub goes_step : (n left : ℕ) (sofar : List ℕ) → Goes n left sofar → 128 ≤ left
    → Goes n (left / 128) (sofar ++ (left % 128 + 128) ∷ [])
goes_step n left sofar g h = step g.more g.below g.text
  where
    step : (more : ℕ) → left < 128 ^ suc more → varint n ≡ sofar ++ groups more left
        → Goes n (left / 128) (sofar ++ (left % 128 + 128) ∷ [])
    step zero below text = absurd (omega arith)
    step (suc more) below text = record {
      more = more;
      below = omega (arith, pow-succ' 128 (suc more));
      text = (rw (le-ltb left 128 h) at text) ∙ sym
          (append_assoc sofar ((left % 128 + 128) ∷ []) (groups more (left / 128)));
    }

-- at the end the last group is left
pub goes_end : (n left : ℕ) (sofar : List ℕ) → Goes n left sofar → left < 128 → varint n ≡ sofar ++ left ∷ []
goes_end n left sofar g h = g.text ∙ ap (λ t. sofar ++ t) (only g.more)
  where
    only : (more : ℕ) → groups more left ≡ left ∷ []
    only zero = refl
    only (suc more) = rw (lt-ltb left 128 h) refl

-- a number has a group
pub groups_not_empty : (more left : ℕ) → 0 < length (groups more left)
groups_not_empty zero left = omega arith
groups_not_empty (suc more) left = elim (cases_lt left 128) [
  | inl p ↦ rw (lt-ltb left 128 p) (omega arith)
  | inr p ↦ rw (le-ltb left 128 p) (omega arith)
]

-- a varint has at most five bytes
pub varint-length : (n : ℕ) → n < 2 ^ 32 → length (varint n) ≤ 5
varint-length n h = let v = varint_is n h in
    omega (arith, ap length v.bytes_are, length-append v.prefix (v.last ∷ []), v.short)

-- the size of a varint is its length
pub varint_size_is : (n : ℕ) → length (varint n) ≡ varint_size n
unfolding varint
varint_size_is n = refl

-- the groups from a place on
pub groups_sum-drop : (i : ℕ) (xs : List ℕ) → groups_sum (drop i xs) ≤ groups_sum xs
groups_sum-drop i [] = simp (drop-nil {A = ℕ}) (omega arith)
groups_sum-drop zero (x ∷ xs) = omega arith
groups_sum-drop (suc i) (x ∷ xs) = let r = groups_sum-drop i xs in omega (arith, r)

-- What the bytes up to a place make.
module _ (s : List ℕ) (i : ℕ) (within : i < length s) (high : AreContinued (take i s)) (short : i ≤ 4) where
  -- the list around a place
  cut_at : s ≡ take i s ++ get_or s i 0 ∷ drop (i + 1) s
  cut_at = sym (take-append-drop i s) ∙ ap (λ t. take i s ++ t) (drop_more s i 0 within)

  -- how many bytes come before it
  front_length : length (take i s) ≡ i
  front_length = length-take-le i s (omega arith)

  -- a last byte of 0 is overlong
  pub bad_zero : 0 < i → get_or s i 0 ≡ 0 → IsOverlongOrTooGreat s
  bad_zero p z = let n =
      front_length in record {
        prefix = take i s;
        last = get_or s i 0;
        rest = drop (i + 1) s;
        begins = cut_at;
        high = high;
        wrong = inl (z, omega (arith, n), omega (arith, n));
      }

  -- a fifth byte above 15 is too great
  pub bad_fifth : i ≡ 4 → 15 < get_or s i 0 → IsOverlongOrTooGreat s
  bad_fifth p z = let n =
      front_length in record {
        prefix = take i s;
        last = get_or s i 0;
        rest = drop (i + 1) s;
        begins = cut_at;
        high = high;
        wrong = inr (n ∙ p, z);
      }

  -- else the bytes up to the place are a varint
  pub good_at : get_or s i 0 < 128 → (get_or s i 0 ≡ 0 → i ≡ 0) → (i ≡ 4 → get_or s i 0 ≤ 15)
      → IsVarint (groups_sum (take (i + 1) s)) (take (i + 1) s)
  good_at low shortest five =
      let n = front_length in
      let e : take (i + 1) s ≡ take i s ++ get_or s i 0 ∷ [] = take_more s i 0 within in
      record {
        prefix = take i s;
        last = get_or s i 0;
        bytes_are = e;
        high = high;
        low = low;
        shortest = λ z. nil_from_length (take i s) (n ∙ shortest z);
        short = omega (arith, n);
        sum = refl;
        fits = subst (λ t. groups_sum t < 2 ^ 32) (sym e)
            (sum_fits (take i s) (get_or s i 0) (omega (arith, n)) low (λ f. five (sym n ∙ f)));
      }

-- the sum of the groups from the place before
pub sum_before : (s : List ℕ) (i : ℕ) → 0 < i → i ≤ length s
    → groups_sum (drop (i - 1) s) ≡ get_or s (i - 1) 0 % 128 + 128 * groups_sum (drop i s)
sum_before s zero p h = absurd (omega arith)
sum_before s (suc i) p h = let w : i < length s = omega arith in
    let e : suc i - 1 ≡ i = omega arith in
    rw e (ap groups_sum (drop_more s i 0 w) ∙ ap (λ j. get_or s i 0 % 128 + 128 * groups_sum (drop j s)) (add-one i))
