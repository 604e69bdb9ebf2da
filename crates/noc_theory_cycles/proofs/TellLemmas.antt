-- What a router of a block tells over its links in a cycle.
use Rattle.std.proofs.Common.{◌≡◌, ℕ, ◌+◌, ◌*◌, ◌<◌, ◌≤◌, Bool, true, length, Option, Some, None, ap, bit_and, bit_or, inl, inr, refl, subst, sym, ◌∙◌}
use Rattle.std.specs.Prelude.{if◌then◌else◌, option_map}
use Rattle.std.proofs.lemmas.Bool.{cases_lt, eq-eqb, false≢true}
use Rattle.noc_topo.specs.Shape.{nodes}
use Rattle.noc_packet.specs.Set.{has_bit}
use Rattle.noc_packet.proofs.SetLemmas.{either_members}
use Rattle.noc_sets.specs.Cycle.{Router, Still, Turn, granted_in, still_of}
use Rattle.noc_sets.specs.Grants.{Allocation}
use Rattle.noc_sets.specs.Layout.{Layout}
use Rattle.noc_sets.specs.Passes.{lane_asks}
use Rattle.noc_sets.proofs.MemberLemmas.{or-right}
use Rattle.noc_theory.specs.Good.{IsGoodSetup}
use Rattle.noc_theory.specs.Network.{Setup}
use Rattle.noc_theory.specs.declared.limits.TheConstants.{CYCLE_LIMIT}
use Rattle.noc_theory_bits.specs.Network.{all_starts, numbers_in, tells_in}
use Rattle.noc_columns.specs.declared.channels.Decided.{Decided}
use Rattle.noc_columns.specs.declared.channels.Links.{Links}
use Rattle.noc_columns.specs.declared.channels.Standing.{Standing}
use Rattle.noc_cycles.specs.Deciding.{HasDecidedHeld, undecided}
use Rattle.noc_cycles.specs.Held.{Held}
use Rattle.noc_cycles.specs.May.{MayDecide, owned_by}
use Rattle.noc_cycles.specs.Taking.{HasTaken}
use Rattle.noc_cycles.specs.Told.{Tells}
use Rattle.noc_cycles.specs.declared.pattern.Pattern.{Pattern}
use Rattle.noc_theory_cycles.specs.Fits.{FitsNetwork}
use Rattle.noc_theory_cycles.specs.Nodes.{ShowsNode}
use Rattle.noc_theory_cycles.proofs.GrantedLemmas.{granted-one, grants-one}
use Rattle.noc_theory_cycles.proofs.NodeLemmas.{node-may-decide}
use Rattle.noc_theory_cycles.proofs.NoneLemmas.{no-member}

module _ (count : ℕ) (net : Setup) (layout : Layout) (pattern : Pattern) (n node : ℕ) (links : Links ℕ) (h : Held) (b : Router)
    (setup : IsGoodSetup net) (few : n < CYCLE_LIMIT) (fits : FitsNetwork count net layout pattern) (is : ShowsNode count net pattern n node links h b)
    (a : Held) (standing : Standing ℕ) (no_credit : ℕ) (comes : Bool) (taken : HasTaken pattern layout (all_starts net) n b a standing no_credit comes)
    (sets : ℕ → ℕ → ℕ) (d : Held) (decided : Decided ℕ) (granted lost : ℕ) (left : Links ℕ) (decides : HasDecidedHeld pattern layout sets (still_of layout (all_starts net) n taken.up b) a d standing decided granted lost left)
    (t : Turn) (grants : t.grants ≡ granted_in (undecided (still_of layout (all_starts net) n taken.up b)) decides.chosen) where
  abbrev s : Still
  s = still_of layout (all_starts net) n taken.up b

  abbrev vcs : ℕ
  vcs = pattern.table.ports.links.vcs

  may : MayDecide pattern (length net.packets) (nodes net.relation.grid) node a standing
  may = node-may-decide count net layout pattern n node links h b setup few fits is a standing no_credit comes taken

  inside : (k : ℕ) → has_bit granted k ≡ true → has_bit (bit_or a.inputs.active granted) k ≡ true
  inside k e = either_members a.inputs.active granted k ∙ or-right (has_bit a.inputs.active k) (has_bit granted k) e

  -- nobody is granted anything where nobody waits
  none-granted : nodes net.relation.grid ≤ node → granted ≡ 0
  none-granted u =
      let asks : lane_asks s.column ≡ 0 = ap (λ x. if x then 0 else bit_and s.column.wanted s.column.idle) (eq-eqb s.column.waiting 0 (is.blank u).waiting) in
      decides.granted_are ∙ ap (λ (x : Allocation). x.granted) decides.choice.rest ∙ ap (λ (x : Allocation). x.granted) (decides.choice.unasked asks)

  in-network : (k : ℕ) → has_bit granted k ≡ true → node < nodes net.relation.grid
  in-network k e = elim (cases_lt node (nodes net.relation.grid)) [
    | inl l ↦ l
    | inr u ↦ absurd (false≢true (no-member granted k (none-granted u) e))
  ]

  -- the numbers that it tells are those that it has
  number-is : (k : ℕ) → numbers_in net layout n b k ≡ d.packet k
  number-is k = ap (λ (f : ℕ → ℕ). f k) taken.shows.marks.packet ∙ sym (ap (λ (f : ℕ → ℕ). f k) decides.packet)

  told-is : (o k : ℕ) → granted_in (undecided s) decides.chosen o ≡ Some k → tells_in net layout n b t o ≡ Some (d.packet k)
  told-is o k e = ap (λ (f : ℕ → Option ℕ). option_map (numbers_in net layout n b) (f o)) grants ∙ ap (option_map (numbers_in net layout n b)) e ∙ ap Some (number-is k)

  granted-for : (o p : ℕ) (x : Option ℕ) → granted_in (undecided s) decides.chosen o ≡ x → option_map (numbers_in net layout n b) x ≡ Some p → (k : ℕ) × (has_bit granted k ≡ true) × (d.out_port k * vcs + d.out_vc k ≡ o)
  granted-for o p None e told = absurd (never told)
    where
      never : None ≡ Some p → ⊥
      never none = cc none
  granted-for o p (Some k) e told =
      let one = granted-one pattern layout sets s a d standing no_credit decided granted lost left (length net.packets) (nodes net.relation.grid) node taken.shows may decides o k e in
      (k, one.0, one.1)

  pub node-tells : Tells net.relation.grid pattern.table.ports.links.vcs node granted d.out_port d.out_vc d.packet (tells_in net layout n b t)
  node-tells = record {
    router = in-network;
    port_is = λ k e. subst (λ p. d.out_port k < p) (sym fits.ports.count) (decides.owned.sends.port k (inside k e));
    vc_is = λ k e. decides.owned.sends.vc k (inside k e);
    each = λ k e. told-is (owned_by vcs d k) k (grants-one pattern layout sets s a d standing no_credit decided granted lost left (length net.packets) (nodes net.relation.grid) node taken.shows may decides k e).is_granted;
    all = λ o p l told. granted-for o p (granted_in (undecided s) decides.chosen o) refl (ap (λ (f : ℕ → Option ℕ). option_map (numbers_in net layout n b) (f o)) (sym grants) ∙ told);
  }
