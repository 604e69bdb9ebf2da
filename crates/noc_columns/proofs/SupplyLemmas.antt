-- A tree of choices by the bits of a number gives what is at this number.
use Rattle.std.proofs.Common.{◌≡◌, ◌≢◌, ◌/◌, ◌%◌, ◌^◌, ◌-◌, inl, inr, ◌∷◌, [], ℕ, zero, suc, ◌+◌, ◌*◌, ◌<◌, ◌≤◌, Bool, true, false, List, arith, ap, ap₂, sym, ◌∙◌, refl, bit_and, bit_or, bit_xor, mul-le-mul_right}
use Rattle.std.specs.Prelude.{slice_index, ◌⊎◌, nat_eq, not, ◌&&◌, ◌||◌, nat_lt, if◌then◌else◌}
use Rattle.noc_topo.specs.Lists.{one_if}
use Rattle.noc_packet.specs.Set.{has_bit}
use Rattle.noc_packet.proofs.SetLemmas.{both_members, either_members, has_bit-zero}
use Rattle.noc_sets.specs.Sets.{differ}
use Rattle.noc_sets.proofs.MemberLemmas.{and-true, ones-members, or-false, or-true, xor_members}
use Rattle.std.proofs.lemmas.Nat.{mul-add-lt}
use Rattle.std.proofs.lemmas.Bool.{cases_eq, cases_lt, eq-eqb, le-ltb, lt-ltb, ne_eqb}
use Rattle.noc_columns.specs.Picks.{port_at}
use Rattle.noc_columns.specs.Supply.{DoesNotDrain, NoneIsDry, TellFed, by_four, digits_by, is_fed, is_fed_among, is_fed_word, number_in}
use Rattle.noc_columns.specs.Words.{IsWithin, Numbering, set_of, word}
use Rattle.noc_columns.specs.declared.ports.Ports.{Ports}
use Rattle.noc_columns.specs.declared.supply.Digits.{Digits}
use Rattle.noc_columns.specs.declared.supply.Sends.{Sends}
use Rattle.noc_columns.specs.declared.supply.TheConstants.{FOURS, ONES, TWOS}
use Rattle.noc_columns.proofs.SetLemmas.{below-members}

-- the number with these bits
abbrev pub number : Bool → Bool → Bool → ℕ
number a b c = one_if a + 2 * (one_if b + 2 * (one_if c + 2 * 0))

-- of a number below 4 there is no third bit
pub no-fours : (a b c : Bool) → number a b c < 4 → c ≡ false
no-fours a b false l = refl
no-fours true true true l = absurd (omega arith)
no-fours true false true l = absurd (omega arith)
no-fours false true true l = absurd (omega arith)
no-fours false false true l = absurd (omega arith)

pub either-bit : (bits first second r : ℕ) → has_bit (bit_xor first (bit_and (bit_xor first second) bits)) r ≡ (if has_bit bits r then has_bit second r else has_bit first r)
either-bit bits first second r =
    xor_members first (bit_and (bit_xor first second) bits) r
    ∙ ap (differ (has_bit first r)) (both_members (bit_xor first second) bits r ∙ ap (λ x. x && has_bit bits r) (xor_members first second r))
    ∙ at (has_bit first r) (has_bit second r) (has_bit bits r)
  where
    at : (x y b : Bool) → differ x (differ x y && b) ≡ (if b then y else x)
    at true true true = refl
    at true true false = refl
    at true false true = refl
    at true false false = refl
    at false true true = refl
    at false true false = refl
    at false false true = refl
    at false false false = refl

pub low-number : (a b c : Bool) (f : ℕ → Bool) → number a b c < 4 → by_four a b f ≡ f (number a b c)
low-number true true false f l = refl
low-number true false false f l = refl
low-number false true false f l = refl
low-number false false false f l = refl
low-number true true true f l = absurd (omega arith)
low-number true false true f l = absurd (omega arith)
low-number false true true f l = absurd (omega arith)
low-number false false true f l = absurd (omega arith)

pub high-number : (a b c : Bool) (f : ℕ → Bool) → (if c then by_four a b (λ k. f (4 + k)) else by_four a b f) ≡ f (number a b c)
high-number true true false f = refl
high-number true false false f = refl
high-number false true false f = refl
high-number false false false f = refl
high-number true true true f = refl
high-number true false true f = refl
high-number false true true f = refl
high-number false false true f = refl

-- ---- the ports, of which the last is the local one
pub port-two : (a b c : Bool) (f : ℕ → Bool) → number a b c ≤ 2 → ((if a then f 1 else f 0) || b) ≡ (if nat_lt (number a b c) 2 then f (number a b c) else true)
port-two true true c f l = absurd (omega arith)
port-two true false true f l = absurd (omega arith)
port-two false true true f l = absurd (omega arith)
port-two false false true f l = absurd (omega arith)
port-two true false false f l = or-false (f 1)
port-two false true false f l = or-true (f 0)
port-two false false false f l = or-false (f 0)

pub port-four : (a b c : Bool) (f : ℕ → Bool) → number a b c ≤ 4 → (by_four a b f || c) ≡ (if nat_lt (number a b c) 4 then f (number a b c) else true)
port-four true true true f l = absurd (omega arith)
port-four true false true f l = absurd (omega arith)
port-four false true true f l = absurd (omega arith)
port-four false false true f l = or-true (f 0)
port-four true true false f l = or-false (f 3)
port-four true false false f l = or-false (f 1)
port-four false true false f l = or-false (f 2)
port-four false false false f l = or-false (f 0)

pub port-six : (a b c : Bool) (f : ℕ → Bool) → number a b c ≤ 6 → (if c then ((if a then f 5 else f 4) || b) else by_four a b f) ≡ (if nat_lt (number a b c) 6 then f (number a b c) else true)
port-six true true true f l = absurd (omega arith)
port-six true false true f l = or-false (f 5)
port-six false true true f l = or-true (f 4)
port-six false false true f l = or-false (f 4)
port-six true true false f l = refl
port-six true false false f l = refl
port-six false true false f l = refl
port-six false false false f l = refl

pub four-same : (a b : Bool) (f g : ℕ → Bool) → f 0 ≡ g 0 → f 1 ≡ g 1 → f 2 ≡ g 2 → f 3 ≡ g 3 → by_four a b f ≡ by_four a b g
four-same true true f g w x y z = z
four-same false true f g w x y z = y
four-same true false f g w x y z = x
four-same false false f g w x y z = w

pub four-words : (a b : Bool) (r none one two three : ℕ) (g : ℕ → Bool) → has_bit none r ≡ g 0 → has_bit one r ≡ g 1 → has_bit two r ≡ g 2 → has_bit three r ≡ g 3
    → by_four a b (λ k. has_bit (slice_index (none ∷ one ∷ two ∷ three ∷ []) k) r) ≡ by_four a b g
four-words a b r none one two three g = four-same a b (λ k. has_bit (slice_index (none ∷ one ∷ two ∷ three ∷ []) k) r) g

pub two-same : (a x y u v : Bool) → x ≡ u → y ≡ v → (if a then y else x) ≡ (if a then v else u)
two-same true x y u v e f = f
two-same false x y u v e f = e

-- the number of a channel of a router is that of the router in the words of the channel
pub member-is : (n : Numbering) (r c : ℕ) (words : List ℕ) → c < n.size → has_bit (set_of n r words) c ≡ has_bit (word (n.index c) words) r
member-is n r c words l = below-members n.size (λ k. has_bit (word (n.index k) words) r) c ∙ ap (λ b. b && has_bit (word (n.index c) words) r) (lt-ltb c n.size l)

pub number-is : (n : Numbering) (r c : ℕ) (d : Digits (List ℕ)) → c < n.size → number_in (digits_by (set_of n r) d) c ≡ number_in (digits_by (word (n.index c)) d) r
number-is n r c d l = λ i. number (member-is n r c d.ones l i) (member-is n r c d.twos l i) (member-is n r c d.fours l i)

-- a link channel in the words and in the set of its port
in-port : (links : Ports) (words : List ℕ) (r q v : ℕ) → links.first ≡ 0 → v < links.vcs → has_bit (set_of (port_at links q) r words) v ≡ has_bit (word (v * links.width + q) words) r
in-port links words r q v first l =
    let e : links.first + v * links.width + q ≡ v * links.width + q = omega (arith, first) in
    member-is (port_at links q) r v words l ∙ ap (λ k. has_bit (word k words) r) e

-- ---- of the virtual channels some are looked at
pub among-looked : (looked links : ℕ) (some : List ℕ) (r q v : ℕ) → v < looked → is_fed_among looked links some r q v ≡ is_fed_word links some r q v
among-looked looked links some r q v l = ap (λ b. if b then is_fed_word links some r q v else true) (lt-ltb v looked l)

among-past : (looked links : ℕ) (some : List ℕ) (r q v : ℕ) → looked ≤ v → is_fed_among looked links some r q v ≡ true
among-past looked links some r q v m = ap (λ b. if b then is_fed_word links some r q v else true) (le-ltb v looked m)

-- those that are looked at and fed, and those past them
pub fed-or-past : (fed past looked links : ℕ) (some : List ℕ) (r q v : ℕ) → (v < looked → has_bit fed r ≡ is_fed_word links some r q v) → has_bit past r ≡ not (nat_lt v looked)
    → has_bit (bit_or fed past) r ≡ is_fed_among looked links some r q v
fed-or-past fed past looked links some r q v told is = either_members fed past r ∙ ap (λ b. has_bit fed r || b) is ∙ at (cases_lt v looked)
  where
    at : (v < looked) ⊎ (looked ≤ v) → (has_bit fed r || not (nat_lt v looked)) ≡ is_fed_among looked links some r q v
    at (inl l) = ap (λ b. has_bit fed r || not b) (lt-ltb v looked l) ∙ or-false (has_bit fed r) ∙ told l ∙ sym (among-looked looked links some r q v l)
    at (inr m) = ap (λ b. has_bit fed r || not b) (le-ltb v looked m) ∙ or-true (has_bit fed r) ∙ sym (among-past looked links some r q v m)

-- where no channel past them is dry
pub among-is : (looked links : ℕ) (some draining : List ℕ) (r q v : ℕ) → NoneIsDry (looked * links) (8 * links) some draining → r < 64 → v < 8 → (q < links → has_bit (word (v * links + q) draining) r ≡ false)
    → is_fed_among looked links some r q v ≡ is_fed_word links some r q v
among-is looked links some draining r q v wet few l kept = at (cases_lt v looked)
  where
    past : looked ≤ v → (q < links) ⊎ (links ≤ q) → is_fed_word links some r q v ≡ true
    past m (inl in_links) =
        let from : looked * links ≤ v * links = mul-le-mul_right links m in
        let below : v * links + q < links * 8 = mul-add-lt v links q 8 l in_links in
        ap (λ b. if b then has_bit (word (v * links + q) some) r else true) (lt-ltb q links in_links)
        ∙ sym (or-false (has_bit (word (v * links + q) some) r))
        ∙ ap (λ b. has_bit (word (v * links + q) some) r || b) (sym (kept in_links))
        ∙ wet (v * links + q) r (omega (arith, from)) (omega (arith, below)) few
    past m (inr local) = ap (λ b. if b then has_bit (word (v * links + q) some) r else true) (le-ltb q links local)

    at : (v < looked) ⊎ (looked ≤ v) → is_fed_among looked links some r q v ≡ is_fed_word links some r q v
    at (inl near) = among-looked looked links some r q v near
    at (inr m) = among-past looked links some r q v m ∙ sym (past m (cases_lt q links))

-- the words tell it of each channel of a router
pub told-of : (links : Ports) (count : ℕ) (sends : Sends (List ℕ)) (some draining supplied : List ℕ) → links.first ≡ 0 → TellFed count links.width links.vcs sends some draining supplied
    → (n : Numbering) (r c : ℕ) → IsWithin count n → c < n.size → r < 64 → number_in (digits_by (set_of n r) sends.port) c ≤ links.width → number_in (digits_by (set_of n r) sends.vc) c < links.vcs
    → DoesNotDrain links.width (λ q. set_of (port_at links q) r draining) (number_in (digits_by (set_of n r) sends.port) c) (number_in (digits_by (set_of n r) sends.vc) c)
    → has_bit (set_of n r supplied) c ≡ is_fed links.width (λ q. set_of (port_at links q) r some) (number_in (digits_by (set_of n r) sends.port) c) (number_in (digits_by (set_of n r) sends.vc) c)
told-of links count sends some draining supplied first tell n r c within l few port vc kept =
    member-is n r c supplied l
    ∙ coe 0 1
    (i. v i < links.vcs → q i ≤ links.width → (q i < links.width → has_bit (word (v i * links.width + q i) draining) r ≡ false) → has_bit (word (n.index c) supplied) r ≡ is_fed_word links.width some r (q i) (v i))
    (tell (n.index c) r (within c l) few) vc port (λ in_links. sym (in-port links draining r (q 1) (v 1) first vc) ∙ kept in_links)
    ∙ ap (λ b. if nat_lt (q 1) links.width then b else true) (sym (in-port links some r (q 1) (v 1) first vc))
  where
    q : number_in (digits_by (word (n.index c)) sends.port) r ≡ number_in (digits_by (set_of n r) sends.port) c
    q = sym (number-is n r c sends.port l)

    v : number_in (digits_by (word (n.index c)) sends.vc) r ≡ number_in (digits_by (set_of n r) sends.vc) c
    v = sym (number-is n r c sends.vc l)

-- ---- a number is told digit by digit
pub digit-is : (a : Bool) (m n : ℕ) → nat_eq (one_if a + 2 * m) n ≡ ((if nat_eq (n % 2) 1 then a else not a) && nat_eq m (n / 2))
digit-is a m n = at a (cases_eq (n % 2) 1) (cases_eq m (n / 2))
  where
    at : (x : Bool) → (n % 2 ≡ 1) ⊎ (n % 2 ≢ 1) → (m ≡ n / 2) ⊎ (m ≢ n / 2) → nat_eq (one_if x + 2 * m) n ≡ ((if nat_eq (n % 2) 1 then x else not x) && nat_eq m (n / 2))
    at true (inl odd) (inl same) = eq-eqb (1 + 2 * m) n (omega (arith, odd, same)) ∙ sym (ap₂ (λ b c. (if b then true else false) && c) (eq-eqb (n % 2) 1 odd) (eq-eqb m (n / 2) same))
    at true (inl odd) (inr other) = ne_eqb (1 + 2 * m) n (λ e. other (omega (arith, odd, e))) ∙ sym (ap₂ (λ b c. (if b then true else false) && c) (eq-eqb (n % 2) 1 odd) (ne_eqb m (n / 2) other))
    at true (inr even) o = ne_eqb (1 + 2 * m) n (λ e. even (omega (arith, e))) ∙ sym (ap (λ b. (if b then true else false) && nat_eq m (n / 2)) (ne_eqb (n % 2) 1 even))
    at false (inl odd) o = ne_eqb (0 + 2 * m) n (λ e. absurd (omega (arith, odd, e))) ∙ sym (ap (λ b. (if b then false else true) && nat_eq m (n / 2)) (eq-eqb (n % 2) 1 odd))
    at false (inr even) (inl same) = eq-eqb (0 + 2 * m) n (omega (arith, even, same)) ∙ sym (ap₂ (λ b c. (if b then false else true) && c) (ne_eqb (n % 2) 1 even) (eq-eqb m (n / 2) same))
    at false (inr even) (inr other) = ne_eqb (0 + 2 * m) n (λ e. other (omega (arith, e))) ∙ sym (ap₂ (λ b c. (if b then false else true) && c) (ne_eqb (n % 2) 1 even) (ne_eqb m (n / 2) other))

pub having-is : (a b c s x y z : Bool) (n : ℕ) → n < 8 → x ≡ nat_eq (n % 2) 1 → y ≡ nat_eq (n / 2 % 2) 1 → z ≡ nat_eq (n / 2 / 2 % 2) 1
    → (((s && (if x then a else not a)) && (if y then b else not b)) && (if z then c else not c)) ≡ (s && nat_eq (number a b c) n)
having-is a b c s x y z n few e f g =
    (λ i. (((s && (if e i then a else not a)) && (if f i then b else not b)) && (if g i then c else not c)))
    ∙ group s _ _ _
    ∙ ap (λ w. s && w)
    (sym (digit-is a (one_if b + 2 * (one_if c + 2 * 0)) n
    ∙ ap (λ w. (if nat_eq (n % 2) 1 then a else not a) && w)
    (digit-is b (one_if c + 2 * 0) (n / 2)
    ∙ ap (λ w. (if nat_eq (n / 2 % 2) 1 then b else not b) && w)
    (digit-is c 0 (n / 2 / 2) ∙ ap (λ w. (if nat_eq (n / 2 / 2 % 2) 1 then c else not c) && w) (eq-eqb 0 (n / 2 / 2 / 2) (omega (arith, few))) ∙ and-true (if nat_eq (n / 2 / 2 % 2) 1 then c else not c)))))
  where
    group : (s u v w : Bool) → (((s && u) && v) && w) ≡ (s && (u && (v && w)))
    group true true v w = refl
    group true false v w = refl
    group false u v w = refl

-- a number is made of its digits
pub number-of : (n : ℕ) → n < 8 → number (nat_eq (n % 2) 1) (nat_eq (n / 2 % 2) 1) (nat_eq (n / 2 / 2 % 2) 1) ≡ n
number-of n few = omega (arith, few, odd n, odd (n / 2), odd (n / 2 / 2))
  where
    odd : (m : ℕ) → one_if (nat_eq (m % 2) 1) ≡ m % 2
    odd m = elim (cases_eq (m % 2) 1) [ inl e ↦ ap one_if (eq-eqb (m % 2) 1 e) ∙ sym e | inr o ↦ ap one_if (ne_eqb (m % 2) 1 o) ∙ (let z : 0 ≡ m % 2 = omega (arith, o) in z) ]

-- ---- the digits of the numbers below 8
-- the same in all routers
in-all : (b : Bool) (r : ℕ) → r < 64 → has_bit (if b then 2 ^ 64 - 1 else 0) r ≡ b
in-all true r few = ones-members 64 r ∙ lt-ltb r 64 few
in-all false r few = has_bit-zero r

-- what holds of each number below 8 holds of one of them
below-eight : (P : ℕ → Type 0) → P 0 → P 1 → P 2 → P 3 → P 4 → P 5 → P 6 → P 7 → (n : ℕ) → n < 8 → P n
below-eight P a b c d e f g h zero l = a
below-eight P a b c d e f g h (suc zero) l = b
below-eight P a b c d e f g h (suc (suc zero)) l = c
below-eight P a b c d e f g h (suc (suc (suc zero))) l = d
below-eight P a b c d e f g h (suc (suc (suc (suc zero)))) l = e
below-eight P a b c d e f g h (suc (suc (suc (suc (suc zero))))) l = f
below-eight P a b c d e f g h (suc (suc (suc (suc (suc (suc zero)))))) l = g
below-eight P a b c d e f g h (suc (suc (suc (suc (suc (suc (suc zero))))))) l = h
below-eight P a b c d e f g h (suc (suc (suc (suc (suc (suc (suc (suc n)))))))) l = absurd (omega (arith, l))

pub ones-are : (n r : ℕ) → n < 8 → r < 64 → has_bit (slice_index ONES n) r ≡ nat_eq (n % 2) 1
ones-are n r l few =
    let all = λ (k : ℕ). in-all (nat_eq (k % 2) 1) r few in
    below-eight (λ k. has_bit (slice_index ONES k) r ≡ nat_eq (k % 2) 1) (all 0) (all 1) (all 2) (all 3) (all 4) (all 5) (all 6) (all 7) n l

pub twos-are : (n r : ℕ) → n < 8 → r < 64 → has_bit (slice_index TWOS n) r ≡ nat_eq (n / 2 % 2) 1
twos-are n r l few =
    let all = λ (k : ℕ). in-all (nat_eq (k / 2 % 2) 1) r few in
    below-eight (λ k. has_bit (slice_index TWOS k) r ≡ nat_eq (k / 2 % 2) 1) (all 0) (all 1) (all 2) (all 3) (all 4) (all 5) (all 6) (all 7) n l

pub fours-are : (n r : ℕ) → n < 8 → r < 64 → has_bit (slice_index FOURS n) r ≡ nat_eq (n / 2 / 2 % 2) 1
fours-are n r l few =
    let all = λ (k : ℕ). in-all (nat_eq (k / 2 / 2 % 2) 1) r few in
    below-eight (λ k. has_bit (slice_index FOURS k) r ≡ nat_eq (k / 2 / 2 % 2) 1) (all 0) (all 1) (all 2) (all 3) (all 4) (all 5) (all 6) (all 7) n l

-- a digit that is put, where it is told in one place alone
pub digit-put : (x a b d : Bool) → (x ≡ true → a ≡ b) → (if x then a else d) ≡ (if x then b else d)
digit-put true a b d same = same refl
digit-put false a b d same = refl

-- of three digits, where they are put in one place
pub number-put : (x a b c d e f : Bool) (n : ℕ) → n < 8 → a ≡ (if x then nat_eq (n % 2) 1 else d) → b ≡ (if x then nat_eq (n / 2 % 2) 1 else e) → c ≡ (if x then nat_eq (n / 2 / 2 % 2) 1 else f) → number a b c ≡ (if x then n else number d e f)
number-put true a b c d e f n few p q r = (λ i. number (p i) (q i) (r i)) ∙ number-of n few
number-put false a b c d e f n few p q r = λ i. number (p i) (q i) (r i)
