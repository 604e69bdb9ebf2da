-- Before the first cycle the words of an empty router show its opening view.
use Rattle.std.proofs.Common.{◌≡◌, ℕ, ◌+◌, ◌-◌, ◌*◌, ◌/◌, ◌<◌, ◌≤◌, true, false, List, [], length, replicate, refl, ap, sym, ◌∙◌, inl, inr, subst, arith}
use Rattle.std.specs.Prelude.{◌⊎◌, ◌||◌, nat_lt, nat_le}
use Rattle.std.proofs.lemmas.Bool.{or_cases}
use Rattle.std.proofs.lemmas.List.{length-replicate, get_or_append_left, get_or-append_right}
use Rattle.std.proofs.Math.Nat.{mul-le-mul_right, add-mul}
use Rattle.noc_alloc.proofs.RequestLemmas.{at_replicate}
use Rattle.noc_vc.specs.Output.{link_output}
use Rattle.noc_vc.specs.declared.output.OutputState.TheVariants.{Idle as Free}
use Rattle.noc_view.specs.View.{opening_view}
use Rattle.noc_theory.specs.Lockstep.{starts_at, ends_at}
use Rattle.noc_sets.specs.Column.{ShowsTurns}
use Rattle.noc_sets.specs.Opening.{AreEmptyMarks, IsEmptyColumn}
use Rattle.noc_theory_bits.proofs.Common.{false≢true, true≢false, lt-ltb, le-ltb, ltb-true, le-leb, and_parts, cases_lt, get_or-replicate, nodes, ports, local_port, has_bit, either_members, has_bit-zero, Packet, Flit, RoundRobin, arbiter_at, Input, idle_input, is_idle_phase, Output, ejection_output, is_supplied, Site, View, size_of, view_buffer, view_input, view_output, IsGoodSetup, site_at, view_at, Setup, opens, Column, RouterMarks, ShowsInput, ShowsOutput, ShowsChannels, ShowsMarks, ShowsPhase, ShowsHolder, sends_by, IsColumn, ShowsPointer, AreSides}
use Rattle.noc_theory_bits.proofs.network.NetworkLemmas.{good}

module _ (count : ℕ) (site : Site) (starts : List (ℕ × Packet)) (ends : List ℕ) (c : Column) (m : RouterMarks) (links local : ℕ) (sides : AreSides site.grid site.vcs links local)
    (empty : IsEmptyColumn count (size_of site) links local site.depth c) (marks : AreEmptyMarks (ports site.grid) (size_of site) m) where
  abbrev v : View
  v = opening_view site starts ends

  none : (word x : ℕ) → word ≡ 0 → has_bit word x ≡ false
  none word x e = ap (λ k. has_bit k x) e ∙ has_bit-zero x

  idle-input : (i : ℕ) → view_input v i ≡ idle_input
  idle-input i = at_replicate idle_input (size_of site) i

  shows-input : (i : ℕ) → i < size_of site → ShowsInput c i (view_buffer v i) (view_input v i)
  shows-input i l =
      let bare : view_buffer v i ≡ [] = at_replicate [] (size_of site) i in
      subst (λ (y : Input). ShowsInput c i (view_buffer v i) y) (sym (idle-input i))
      (subst (λ (fs : List Flit). ShowsInput c i fs idle_input) (sym bare)
      (record { waiting = none c.waiting i empty.waiting; active = none c.active i empty.active; len = empty.len i }))

  all-idle : (o : ℕ) → o < size_of site → has_bit c.idle o ≡ true
  all-idle o l = ap (λ k. has_bit k o) empty.idle ∙ either_members links local o ∙ ap (λ b. b || has_bit local o) (sides.link_is o) ∙ at (cases_lt o (local_port site.grid * site.vcs))
    where
      at : (o < local_port site.grid * site.vcs) ⊎ (local_port site.grid * site.vcs ≤ o) → (nat_lt o (local_port site.grid * site.vcs) || has_bit local o) ≡ true
      at (inl u) = rw (lt-ltb o (local_port site.grid * site.vcs) u) refl
      at (inr u) = rw (le-ltb o (local_port site.grid * site.vcs) u) (sides.local_is o ∙ rw (le-leb (local_port site.grid * site.vcs) o u) (lt-ltb o (size_of site) l))

  abbrev n_links : ℕ
  n_links = local_port site.grid * site.vcs

  output-is : (o : ℕ) → o < size_of site → ((o < n_links) × (view_output v o ≡ link_output site.depth)) ⊎ (view_output v o ≡ ejection_output)
  output-is o l = at (cases_lt o n_links)
    where
      many : length (replicate n_links (link_output site.depth)) ≡ n_links
      many = length-replicate n_links (link_output site.depth)

      at : (o < n_links) ⊎ (n_links ≤ o) → ((o < n_links) × (view_output v o ≡ link_output site.depth)) ⊎ (view_output v o ≡ ejection_output)
      at (inl u) = inl (
        u,
        get_or_append_left (replicate n_links (link_output site.depth)) (replicate site.vcs ejection_output) ejection_output o (omega (arith, u, many))
            ∙ get_or-replicate n_links o (link_output site.depth) ejection_output u,
      )
      at (inr u) = inr
          (get_or-append_right (replicate n_links (link_output site.depth)) (replicate site.vcs ejection_output) n_links o ejection_output many u
          ∙ at_replicate ejection_output site.vcs (o - n_links))

  shows-output : (o : ℕ) → o < size_of site → ShowsOutput c o (view_output v o)
  shows-output o l = at (output-is o l)
    where
      at : ((o < n_links) × (view_output v o ≡ link_output site.depth)) ⊎ (view_output v o ≡ ejection_output) → ShowsOutput c o (view_output v o)
      at (inl u) =
          subst (λ (y : Output). ShowsOutput c o y) (sym u.1)
          (record {
            idle = all-idle o l;
            draining = none c.draining o empty.draining;
            credit = empty.credit o (sides.link_is o ∙ lt-ltb o n_links u.0);
          })
      at (inr e) = subst (λ (y : Output). ShowsOutput c o y) (sym e) (record { idle = all-idle o l; draining = none c.draining o empty.draining; credit = tt })

  holder-is : (o : ℕ) → o < size_of site → (view_output v o).holder ≡ Free
  holder-is o l = at (output-is o l)
    where
      at : ((o < n_links) × (view_output v o ≡ link_output site.depth)) ⊎ (view_output v o ≡ ejection_output) → (view_output v o).holder ≡ Free
      at (inl u) = ap (λ (y : Output). y.holder) u.1
      at (inr e) = ap (λ (y : Output). y.holder) e

  channels : ShowsChannels c v
  channels = record {
    inputs = shows-input;
    outputs = shows-output;
    supplied = λ i l. none c.supplied i empty.supplied ∙ ap (λ (y : Input). is_supplied v.outputs y.phase) (sym (idle-input i));
    waiting_below = λ k e. absurd (false≢true (sym (none c.waiting k empty.waiting) ∙ e));
    active_below = λ k e. absurd (false≢true (sym (none c.active k empty.active) ∙ e));
    draining_below = λ k e. absurd (false≢true (sym (none c.draining k empty.draining) ∙ e));
    idle_below = λ k e. below k (or_cases (has_bit links k) (has_bit local k) (sym (ap (λ w. has_bit w k) empty.idle ∙ either_members links local k) ∙ e));
    len_below = λ i l. empty.len i;
  }
    where
      below : (k : ℕ) → (has_bit links k ≡ true) ⊎ (has_bit local k ≡ true) → k < size_of site
      below k (inl e) = let u = ltb-true k (local_port site.grid * site.vcs) (sym (sides.link_is k) ∙ e) in omega (arith, u)
      below k (inr e) = ltb-true k (size_of site) (and_parts (nat_le (local_port site.grid * site.vcs) k) (nat_lt k (size_of site)) (sym (sides.local_is k) ∙ e)).1

  pointer-at : (n size i : ℕ) → i < n → (arbiter_at (replicate n (record { size = size; pointer = 0 })) i).pointer ≡ 0
  pointer-at n size i l = ap (λ (t : RoundRobin). t.pointer) (get_or-replicate n i (record { size = size; pointer = 0 }) (record { size = 0; pointer = 0 }) l)

  -- a word with all channels of a port is that of a pointer at the first
  all-ahead : (width word p pointer : ℕ) → ((x : ℕ) → x < width → has_bit word (p * width + x) ≡ true) → pointer ≡ 0 → ShowsPointer width word p pointer
  all-ahead width word p pointer all z = inl (λ x u. all x u ∙ sym (ap (λ k. nat_le k x) z ∙ le-leb 0 x (omega arith)))

  turns : ShowsTurns c m v
  turns = record {
    inputs = λ p l. all-ahead site.vcs c.ahead p _ (λ x u. empty.ahead (p * site.vcs + x) (port-fits p x l u)) (pointer-at (ports site.grid) site.vcs p l);
    channels = λ o l. all-ahead (size_of site) (m.turn o) 0 _ (λ x u. let z : 0 * size_of site + x ≡ x = omega arith in ap (has_bit (m.turn o)) z ∙ marks.turn o x l u)
        (pointer-at (ports site.grid * site.vcs) (ports site.grid * site.vcs) o l);
    outputs = λ q i lq li. inl (marks.port_turn q i lq li ∙ sym (ap (λ k. nat_le k (i / site.vcs)) (pointer-at (ports site.grid) (ports site.grid) q lq) ∙ le-leb 0 (i / site.vcs) (omega arith)));
  }
    where
      port-fits : (p x : ℕ) → p < ports site.grid → x < site.vcs → p * site.vcs + x < size_of site
      port-fits p x l u =
          let k : (p + 1) * site.vcs ≤ ports site.grid * site.vcs = mul-le-mul_right site.vcs (omega (arith, l)) in
          let d : (p + 1) * site.vcs ≡ p * site.vcs + site.vcs = omega (arith, add-mul p 1 site.vcs) in
          omega (arith, k, u, d)

  shows-marks : ShowsMarks c m v
  shows-marks = record {
    phases = λ i l. subst (λ (y : Input). ShowsPhase c m site i y.phase) (sym (idle-input i)) tt;
    holders = λ o l. subst (λ h. ShowsHolder m o h) (sym (holder-is o l)) tt;
    packets = λ i l e. absurd (true≢false (ap (λ (y : Input). is_idle_phase y.phase) (sym (idle-input i)) ∙ e));
    to_port = λ q i lq li. marks.to_port q i lq li ∙ ap (λ (y : Input). sends_by site.vcs q y.phase) (sym (idle-input i));
  }

  -- the words of an empty router show its opening view
  pub empty-shows : IsColumn count c m v
  empty-shows = record { words = empty.words; channels = channels; turns = turns; marks = shows-marks; sending = empty.injecting }

-- and so they do of each router of a network
pub opening-shows : (count : ℕ) (net : Setup) → IsGoodSetup net → (r : ℕ) → r < nodes net.relation.grid → (c : Column) (m : RouterMarks) (links local : ℕ) → AreSides net.relation.grid net.relation.vcs links local
    → IsEmptyColumn count (ports net.relation.grid * net.relation.vcs) links local net.depth c → AreEmptyMarks (ports net.relation.grid) (ports net.relation.grid * net.relation.vcs) m
    → IsColumn count c m (view_at net 0 r)
opening-shows count net setup r l c m links local sides empty marks =
    subst (λ (v : View). IsColumn count c m v) (opens net (good net setup) r l)
    (empty-shows count (site_at net r) (starts_at net r) (ends_at net r) c m links local sides empty marks)
