-- How long it takes until packets to one node are out.
use Rattle.std.proofs.Common.{◌≡◌, ◌≢◌, ℕ, ◌+◌, ◌-◌, ◌*◌, ◌<◌, ◌≤◌, Bool, true, false, List, [], ◌∷◌, ap, arith, filter, inl, inr, length, max, refl, sym, ◌∙◌}
use Rattle.std.specs.Prelude.{◌⊎◌, if◌then◌else◌, is_none, is_some, nat_eq, sum_by}
use Rattle.std.proofs.lemmas.Bool.{and_parts, cases_lt, eqb-true, false≢true}
use Rattle.std.proofs.lemmas.List.Elements.{filter-append}
use Rattle.std.proofs.lemmas.List.Sums.{sum_by-append, sum_by-cons}
use Rattle.noc_topo.specs.Lists.{Each, Has, Pairs, below}
use Rattle.noc_topo.proofs.ListLemmas.{below-next}
use Rattle.noc_route.proofs.OptionLemmas.{is_none-none}
use Rattle.noc_theory.specs.Good.{IsGoodSetup}
use Rattle.noc_theory.specs.Network.{Setup, arrival_in, packet_at, state_at}
use Rattle.noc_theory.specs.Waiting.{AreWaiting, IsWaiting}
use Rattle.noc_theory.proofs.worms.BuiltLemmas.{well-formed}
use Rattle.noc_theory.proofs.worms.GrantLemmas.{Has-below}
use Rattle.noc_theory.proofs.worms.MemberLemmas.{Has-filter, Pairs-filter, each-from}
use Rattle.noc_theory.proofs.worms.OpeningLemmas.{below-rises}
use Rattle.noc_theory.proofs.worms.TurnLemmas.{take-turns}
use Rattle.noc_wires.proofs.BelowLemmas.{one_not}
use Rattle.noc_answers.specs.Arriving.{is_left, left_for}
use Rattle.noc_requests.specs.Drain.{is_out_at}

-- rising numbers are different
different : (xs : List ℕ) → Pairs (λ (a b : ℕ). a < b) xs → Pairs (λ (a b : ℕ). a ≢ b) xs
different [] rise = tt
different (x ∷ xs) rise = (others xs rise.0, different xs rise.1)
  where
    others : (ys : List ℕ) → Each (λ (y : ℕ). x < y) ys → Each (λ (y : ℕ). x ≢ y) ys
    others [] e = tt
    others (y ∷ ys) e = ((λ same. let l = e.0 in omega arith), others ys e.1)

module _ (net : Setup) (count node : ℕ) where
  abbrev size : ℕ → ℕ
  size p = (packet_at net p).length

  -- the flits that are left of the first n packets
  pub flits_below : ℕ → ℕ
  flits_below n = sum_by size (filter (is_left net count node) (below n))

  flits-none : flits_below 0 ≡ 0
  unfolding flits_below below
  flits-none = refl

  flits-more : (n : ℕ) (b : Bool) → is_left net count node n ≡ b → flits_below (n + 1) ≡ flits_below n + (if b then size n else 0)
  unfolding flits_below
  flits-more n b e =
      ap (λ xs. sum_by size (filter (is_left net count node) xs)) (below-next n)
      ∙ ap (sum_by size) (filter-append (is_left net count node) (below n) (n ∷ []))
      ∙ sum_by-append size (filter (is_left net count node) (below n)) (filter (is_left net count node) (n ∷ []))
      ∙ ap (λ m. sum_by size (filter (is_left net count node) (below n)) + m) (ap (λ c. sum_by size (if c then n ∷ [] else [])) e ∙ one b)
    where
      one : (b : Bool) → sum_by size (if b then n ∷ [] else []) ≡ (if b then size n else 0)
      one true = let c = sum_by-cons size n [] in omega (arith, c)
      one false = refl

  -- what is left of the first n packets
  pub record IsLeftBefore (n flits longest : ℕ) : Type 0 where
    pub all : flits ≡ flits_below n
    pub few : flits ≤ n * 64
    pub none_longer : (p : ℕ) → p < n → is_left net count node p ≡ true → size p ≤ longest
    pub short : longest ≤ 64

  pub left-none : IsLeftBefore 0 0 0
  left-none = record { all = sym flits-none; few = omega arith; none_longer = λ p l e. absurd (omega (arith, l)); short = omega arith }

  pub left-more : (n flits longest length : ℕ) → is_left net count node n ≡ true → length ≡ size n → length ≤ 64 → IsLeftBefore n flits longest → IsLeftBefore (n + 1) (flits + length) (max longest length)
  left-more n flits longest length e is low b = record {
    all = let m = flits-more n true e in let a = b.all in omega (arith, m, a, is);
    few = let f = b.few in omega (arith, f, low);
    none_longer = λ p l k. at p k (cases_lt p n) l;
    short = let s = b.short in omega (arith, s, low);
  }
    where
      at : (p : ℕ) → is_left net count node p ≡ true → (p < n) ⊎ (n ≤ p) → p < n + 1 → size p ≤ max longest length
      at p k (inl old) l = let x = b.none_longer p old k in omega (arith, x)
      at p k (inr new) l = let same : size p ≡ size n = ap size (let s : p ≡ n = omega (arith, new, l) in s) in omega (arith, same, is)

  pub left-same : (n flits longest : ℕ) → is_left net count node n ≡ false → IsLeftBefore n flits longest → IsLeftBefore (n + 1) flits longest
  left-same n flits longest e b = record {
    all = let m = flits-more n false e in let a = b.all in omega (arith, m, a);
    few = let f = b.few in omega (arith, f);
    none_longer = λ p l k. at p k (cases_lt p n) l;
    short = b.short;
  }
    where
      at : (p : ℕ) → is_left net count node p ≡ true → (p < n) ⊎ (n ≤ p) → p < n + 1 → size p ≤ longest
      at p k (inl old) l = b.none_longer p old k
      at p k (inr new) l = let s : p ≡ n = omega (arith, new, l) in absurd (false≢true (sym e ∙ ap (is_left net count node) (sym s) ∙ k))

  -- and of all
  pub left-all : (n flits longest : ℕ) → n ≡ length net.packets → IsLeftBefore n flits longest → flits ≡ sum_by size (left_for net count node)
  unfolding flits_below
  left-all n flits longest is b = b.all ∙ ap (λ m. sum_by size (filter (is_left net count node) (below m))) is

  module _ (good : IsGoodSetup net) (longest : ℕ) (short : (p : ℕ) → p < length net.packets → is_left net count node p ≡ true → size p ≤ longest) where
    waiting : AreWaiting net count node longest (left_for net count node)
    waiting = record {
      apart = different (left_for net count node) (Pairs-filter (λ (a b : ℕ). a < b) (is_left net count node) (below (length net.packets)) (below-rises (length net.packets)));
      each = each-from (IsWaiting net count node longest) (left_for net count node) one;
    }
      where
        one : (p : ℕ) → Has p (left_for net count node) → IsWaiting net count node longest p
        one p h =
            let m = Has-filter (is_left net count node) p (below (length net.packets)) h in
            let low = Has-below p (length net.packets) m.0 in
            let parts = and_parts (nat_eq (packet_at net p).destination node) (is_none (arrival_in net (state_at net count) p)) m.1 in
            record { known = low; home = eqb-true _ _ parts.0; waits = is_none-none _ parts.1; short = short p low m.1 }

    abbrev is_out : ℕ → ℕ → Bool
    is_out k p = is_some (arrival_in net (state_at net (count + k)) p)

    -- in fewer cycles than they have flits, but for those that may be out, not every packet is out
    pub not-out : (k : ℕ) → k + net.relation.vcs * (longest - 1) < sum_by size (left_for net count node) → is_out_at net (count + k) ≡ false
    not-out k few = at (is_out_at net (count + k)) refl
      where
        out : is_out_at net (count + k) ≡ true → (p : ℕ) → p < length net.packets → is_out k p ≡ true
        out all p low = by (is_out k p) refl
          where
            by : (b : Bool) → is_out k p ≡ b → is_out k p ≡ true
            by true e = e
            by false e = absurd (false≢true (sym (one_not (is_out k) (length net.packets) p low e) ∙ all))

        at : (b : Bool) → is_out_at net (count + k) ≡ b → is_out_at net (count + k) ≡ false
        at false e = e
        at true e =
            let each : Each (λ p. is_out k p ≡ true) (left_for net count node) =
            each-from (λ p. is_out k p ≡ true) (left_for net count node) (λ p h. out e p (Has-below p (length net.packets) (Has-filter (is_left net count node) p (below (length net.packets)) h).0)) in
            let turns = take-turns net (well-formed net good) count k node longest (left_for net count node) waiting each in
            absurd (omega (arith, few, turns))
