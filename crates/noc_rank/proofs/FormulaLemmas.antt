-- Ranks by formula.
use Rattle.std.proofs.Common.{◌≡◌, ℕ, ◌+◌, ◌*◌, ◌/◌, ◌%◌, ◌<◌, ◌≤◌, Bool, true, false, List, [], ◌∷◌, ◌++◌, Option, Some, None, length, length-append, get_or, refl, sym, subst, ap, ◌∙◌, arith}
use Rattle.std.specs.Prelude.{nat_le, nat_eq, not, ◌&&◌, IfSome, if◌then◌else◌}
use Rattle.std.proofs.lemmas.Bool.{leb-true, ltb-true, eqb-true, and_parts}
use Rattle.std.proofs.Math.Nat.{mul-le-mul_right, zero-mul}
use Rattle.std.proofs.lemmas.Option.{none-some}
use Rattle.noc_packet.specs.declared.limits.TheConstants.{MAX_CHANNELS, MAX_CLASSES}
use Rattle.noc_topo.specs.Shape.{Grid, IsGrid, nodes, dimensions, local_port, coordinates, three_coordinates}
use Rattle.noc_topo.proofs.LinkLemmas.{AreRadices-from_test, AreRadices-at, IsWithin-at, IsWithin-coordinates, get_or-padded}
use Rattle.noc_route.specs.Relation.{is_right, escapes, is_escape}
use Rattle.noc_route.specs.declared.rule.Rule.{Rule}
use Rattle.noc_route.specs.declared.rule.Rule.TheVariants.{Dor, Dateline, WestFirst, Adaptive, Rows}
use Rattle.noc_route.proofs.EntryLemmas.{half-some, each-pushed}
use Rattle.noc_route.specs.Ranks.{Ranking, is_port_channel, is_channel, rank_count, rank_index, rank_at}
use Rattle.noc_rank.specs.Ranking.{IsRanking}
use Rattle.noc_rank.specs.Formulas.{has_ranks, is_ranked, formula, formula_at, hops_passed, IsGenerated}
use Rattle.noc_rank.specs.Formulated.{IsWithin, AreByFormula, rank_in, part_by}
use Rattle.noc_rank.specs.declared.generated.Formula.{Formula}
use Rattle.noc_rank.proofs.IndexLemmas.{is_port_channel-parts, is_port_channel-decoded, rank_index-below, rank_index-router, rank_index-port, rank_index-vc}

-- ---- what a rule with ranks has

pub has_ranks-right : (g : Grid) (vcs classes : ℕ) (rule : Rule) → has_ranks g vcs classes rule ≡ true → is_right g vcs classes rule ≡ true
has_ranks-right g vcs classes rule e = (and_parts (is_right g vcs classes rule) _ e).0

pub vcs-few : (g : Grid) (vcs classes : ℕ) (rule : Rule) → has_ranks g vcs classes rule ≡ true → (1 ≤ vcs) × (vcs ≤ MAX_CHANNELS)
vcs-few g vcs classes rule e =
    let a = and_parts _ _ (has_ranks-right g vcs classes rule e) in
    let b = and_parts _ (nat_eq (vcs % classes) 0) a.0 in
    let c = and_parts _ (nat_le classes MAX_CLASSES) b.0 in
    let d = and_parts _ (nat_le 1 classes) c.0 in
    let f = and_parts (nat_le 1 vcs) (nat_le vcs MAX_CHANNELS) d.0 in
    (leb-true 1 vcs f.0, leb-true vcs MAX_CHANNELS f.1)

pub halves-some : (g : Grid) (vcs classes : ℕ) → has_ranks g vcs classes Dateline ≡ true → 0 < vcs / classes / 2
halves-some g vcs classes e = half-some g vcs classes (has_ranks-right g vcs classes Dateline e)

pub two-dimensions : (g : Grid) (vcs classes : ℕ) → has_ranks g vcs classes WestFirst ≡ true → dimensions g ≡ 2
two-dimensions g vcs classes e =
    let a = and_parts _ (not g.wraps && nat_eq (dimensions g) 2) (has_ranks-right g vcs classes WestFirst e) in
    eqb-true (dimensions g) 2 (and_parts (not g.wraps) (nat_eq (dimensions g) 2) a.1).1

-- ---- coordinates

pub coordinate-inside : (g : Grid) (r i : ℕ) → IsGrid g → i < dimensions g → (get_or (three_coordinates (coordinates g.radix r)) i 0 < get_or g.radix i 0) × (get_or g.radix i 0 ≤ 16)
coordinate-inside g r i sound l =
    let radices = AreRadices-from_test g.radix sound.sizes in
    let three : i < 3 = omega (arith, sound.few_dimensions) in
    let inside = IsWithin-at g.radix (coordinates g.radix r) i (IsWithin-coordinates g.radix r radices) l in
    (omega (arith, get_or-padded (coordinates g.radix r) i three, inside), (AreRadices-at g.radix i radices l).1)

-- ---- ranks are small

pub escapes-few : (g : Grid) → escapes g ≤ 2
escapes-few g = at g.wraps refl
  where
    at : (b : Bool) → g.wraps ≡ b → escapes g ≤ 2
    at true e = rw e (omega arith)
    at false e = rw e (omega arith)

-- an escape channel is one of the two lowest of its class
pub escape-low : (g : Grid) (vcs classes v : ℕ) (rule : Rule) → rule ≡ Adaptive → is_ranked g vcs classes rule v ≡ true → v % (vcs / classes) ≤ 2
escape-low g vcs classes v rule e known =
    let escape : is_escape g vcs classes v ≡ true = sym (ap (λ rule. is_ranked g vcs classes rule v) e) ∙ known in
    omega (arith, ltb-true (v % (vcs / classes)) (escapes g) escape, escapes-few g)

pub rank-few : (a b s p : ℕ) → a < 3 → b ≤ 2 → s ≤ 16 → p < 16 → (b * s ≤ 32) × (32 * a + b * s + p + 1 ≤ 145)
rank-few a b s p l m n o = let most : b * s ≤ 2 * s = mul-le-mul_right s m in (omega arith, omega arith)

first-part : (a s h : ℕ) → a + h + 1 ≡ a + 0 * s + h + 1
first-part a s h = rw (zero-mul s) (omega arith)

-- every rule but west first has its ranks dimension by dimension
pub formula-parted : (g : Grid) (vcs classes r p v : ℕ) (rule : Rule) → (rule ≡ WestFirst → ⊥) → formula g vcs classes rule r p v ≡ 32 * (p / 2) + part_by vcs classes rule v * get_or g.radix (p / 2) 0 + hops_passed g r p + 1
formula-parted g vcs classes r p v Dor other = first-part (32 * (p / 2)) (get_or g.radix (p / 2) 0) (hops_passed g r p)
formula-parted g vcs classes r p v Dateline other = refl
formula-parted g vcs classes r p v WestFirst other = absurd (other refl)
formula-parted g vcs classes r p v Adaptive other = refl
formula-parted g vcs classes r p v (Rows rows) other = first-part (32 * (p / 2)) (get_or g.radix (p / 2) 0) (hops_passed g r p)

-- ---- a list of ranks by formula

-- one more place, where p is the number of link ports
pub by_formula-push : (f : Formula) (p n : ℕ) (xs ys : List (Option ℕ)) (x : Option ℕ) → p ≡ local_port f.shape.now → AreByFormula f n xs → ys ≡ xs ++ x ∷ []
    → x ≡ rank_in f (n / f.vcs / p) (n / f.vcs % p) (n % f.vcs) → IfSome x IsWithin → AreByFormula f (n + 1) ys
by_formula-push f p n xs ys x ports old grown value within = record {
  long = ap length grown ∙ length-append xs (x ∷ []) ∙ ap (λ k. k + 1) old.long;
  items = each-pushed None (λ k r. r ≡ rank_in f (k / f.vcs / local_port f.shape.now) (k / f.vcs % local_port f.shape.now) (k % f.vcs)) xs ys x n old.long grown old.items
      (subst (λ q. x ≡ rank_in f (n / f.vcs / q) (n / f.vcs % q) (n % f.vcs)) ports value);
  within = each-pushed None (λ k r. IfSome r IsWithin) xs ys x n old.long grown old.within within;
}

-- the place of a loop over all places
pub rank_index-known : (g : Grid) (vcs p n : ℕ) → 0 < vcs → 2 ≤ p → p ≡ local_port g → n < rank_count g vcs → n / vcs / p < nodes g
rank_index-known g vcs p n some ports count below =
    let parts = is_port_channel-parts g vcs (n / vcs / local_port g) (n / vcs % local_port g) (n % vcs) (is_port_channel-decoded g vcs n some (omega (arith, ports, count)) below) in
    subst (λ q. n / vcs / q < nodes g) (sym count) parts.0

module _ (g : Grid) (vcs classes : ℕ) (rule : Rule) (ranks : List (Option ℕ))
    (items : (k : ℕ) → k < rank_count g vcs → get_or ranks k None ≡ formula_at g vcs classes rule (k / vcs / local_port g) (k / vcs % local_port g) (k % vcs)) where
  at_place : (r p v : ℕ) → is_port_channel g vcs r p v ≡ true → get_or ranks (rank_index g vcs r p v) None ≡ formula_at g vcs classes rule r p v
  at_place r p v e =
      let parts = is_port_channel-parts g vcs r p v e in
      let here = items (rank_index g vcs r p v) (rank_index-below g vcs r p v e) in
      rw (rank_index-router g vcs r p v parts.1 parts.2, rank_index-port g vcs r p v parts.1 parts.2, rank_index-vc g vcs r p v parts.2) at here

  at_any : (r p v : ℕ) (b : Bool) → is_port_channel g vcs r p v ≡ b → (if b then get_or ranks (rank_index g vcs r p v) None else None) ≡ formula_at g vcs classes rule r p v
  at_any r p v true e = at_place r p v e
  at_any r p v false e = rw e refl

  pub listed-rank_at : (r p v : ℕ) → rank_at (record { grid = g; vcs = vcs; ranks = ranks }) r p v ≡ formula_at g vcs classes rule r p v
  listed-rank_at r p v = at_any r p v (is_port_channel g vcs r p v) refl

module _ (f : Formula) (ranks : List (Option ℕ)) (made : AreByFormula f (rank_count f.shape.now f.vcs) ranks) where
  abbrev g : Grid
  g = f.shape.now

  abbrev listed : Ranking
  listed = record { grid = g; vcs = f.vcs; ranks = ranks }

  ranks-are : (r p v : ℕ) → rank_at listed r p v ≡ rank_in f r p v
  ranks-are = listed-rank_at g f.vcs f.classes f.rule.now ranks made.items

  -- the list is ranks
  pub IsRanking-listed : IsGrid g → IsRanking listed
  IsRanking-listed sound = record {
    grid = sound;
    long = made.long;
    real = λ r p v n e. real_at r p v n (is_channel g f.vcs r p v) refl (sym (ranks-are r p v) ∙ e);
    low = λ r p v n e. (within r p v n (is_port_channel g f.vcs r p v) refl e).0;
    high = λ r p v n e. omega (arith, (within r p v n (is_port_channel g f.vcs r p v) refl e).1);
  }
    where
      real_at : (r p v n : ℕ) (b : Bool) → is_channel g f.vcs r p v ≡ b → rank_in f r p v ≡ Some n → is_channel g f.vcs r p v ≡ true
      real_at r p v n true e h = e
      real_at r p v n false e h = absurd (none-some n (sym (rw e refl) ∙ h))

      within : (r p v n : ℕ) (b : Bool) → is_port_channel g f.vcs r p v ≡ b → rank_at listed r p v ≡ Some n → IsWithin n
      within r p v n true e h =
          let there : get_or ranks (rank_index g f.vcs r p v) None ≡ Some n = sym (rw e refl) ∙ h in
          let W : Option ℕ → Type 0 = λ o. IfSome o IsWithin in
          subst W there (made.within (rank_index g f.vcs r p v) (rank_index-below g f.vcs r p v e))
      within r p v n false e h = absurd (none-some n (sym (rw e refl) ∙ h))

  pub IsGenerated-listed : IsRanking listed → IsGenerated g f.vcs f.classes f.rule.now listed
  IsGenerated-listed sound = record { ruled = f.ruled; grid = refl; vcs_are = refl; ranking = sound; ranks = ranks-are }
