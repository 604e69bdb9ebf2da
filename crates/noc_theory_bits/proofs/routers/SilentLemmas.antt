-- What words show of beats that carry nothing, and of a view but for what it has counted and found.
use Rattle.std.proofs.Common.{◌≡◌, ℕ, zero, suc, ◌+◌, ◌*◌, ◌/◌, ◌%◌, ◌<◌, ◌≤◌, true, List, [], ◌∷◌, get_or, Option, Some, None, refl, ap, sym, ◌∙◌, inl, inr, subst, arith}
use Rattle.std.specs.Prelude.{◌⊎◌, find, option_map, option_and_then, is_some}
use Rattle.noc_theory.specs.Lockstep.{flit_on}
use Rattle.noc_theory.proofs.join.PlaceViewLemmas.{in-size}
use Rattle.noc_view.specs.View.{view_after_take, view_after_takes_from, with_flit, with_credit}
use Rattle.noc_theory_bits.proofs.Common.{false≢true, eq-eqb, ne_eqb, cases_lt, get_or_past, same_Some, div-mul-add, mod-mul-add, below, tabulate, is_some_of, nodes, local_port, neighbour, get_or-tabulate, length-tabulate, has_bit-zero, Flit, Beat, Link, Site, View, size_of, idle_beat, Finding, IsGoodSetup, IsSilent, beats_in, beat_by, view_at, Setup, State, has_channel, state_at, Has-below, find-has, view_at-seen, Column, RouterMarks, IsColumn, flit_from, flit_on_vc, credit_from, ShowsWires, Routes, view_after_takes}
use Rattle.noc_theory_bits.proofs.network.NetworkLemmas.{beats, good}

-- ---- beats that carry nothing change no router
taken-silent : (relation : Routes) (port : ℕ) (row : List Beat) (v : View) → IsSilent row → view_after_takes_from relation port row v ≡ v
unfolding view_after_take
taken-silent relation port [] v silent = refl
taken-silent relation port (beat ∷ row) v silent =
    let one : view_after_take relation port beat v ≡ v = ap (λ (b : Beat). with_credit port b.credit (with_flit relation port b.flit v)) (silent 0) in
    ap (view_after_takes_from relation (port + 1) row) one ∙ taken-silent relation (port + 1) row v (λ k. silent (suc k))

pub all-silent : (relation : Routes) (row : List Beat) (v : View) → IsSilent row → view_after_takes relation row v ≡ v
unfolding view_after_takes
all-silent relation row v silent = taken-silent relation 0 row v silent

-- ---- no member of the words of the wires: no beat carries anything

-- a flit with its virtual channel, and that of the first channel that has one
abbrev on_channel : ℕ → Option Flit → Option (ℕ × Flit)
on_channel v o = option_map (λ g. (v, g)) o

abbrev first_of : (ℕ → Option Flit) → Option ℕ → Option (ℕ × Flit)
first_of flits o = option_and_then (λ v. option_map (λ g. (v, g)) (flits v)) o

abbrev beat_of : Option (ℕ × Flit) → Option ℕ → Beat
beat_of flit credit = record { flit = flit; credit = credit }

zero-add : (n : ℕ) → 0 + n ≡ n
zero-add n = omega arith

-- the place of a virtual channel of a port
port-of : (vcs q vc : ℕ) → vc < vcs → ((q * vcs + vc) / vcs ≡ q) × ((q * vcs + vc) % vcs ≡ vc)
port-of vcs q vc l = (div-mul-add q vcs vc l, mod-mul-add q vcs vc l)

flit-there : (vcs p k vc : ℕ) (row : List Beat) (f : Flit) → vc < vcs → (get_or row k idle_beat).flit ≡ Some (vc, f) → flit_from vcs p row ((p + k) * vcs + vc) ≡ Some f
flit-there vcs p k vc [] f l e = absurd (cc e)
flit-there vcs p zero vc (beat ∷ row) f l e =
    let at : p + 0 ≡ p = omega arith in
    let i = port-of vcs (p + 0) vc l in
    rw (eq-eqb (((p + 0) * vcs + vc) / vcs) p (i.0 ∙ at)) (ap (flit_on_vc (((p + 0) * vcs + vc) % vcs)) e ∙ rw (eq-eqb vc (((p + 0) * vcs + vc) % vcs) (sym i.1)) refl)
flit-there vcs p (suc k) vc (beat ∷ row) f l e =
    let at : p + suc k ≡ p + 1 + k = omega arith in
    let i = port-of vcs (p + suc k) vc l in
    rw (ne_eqb (((p + suc k) * vcs + vc) / vcs) p (λ z. absurd (omega (arith, z, i.0))))
    (subst (λ q. flit_from vcs (p + 1) row (q * vcs + vc) ≡ Some f) (sym at) (flit-there vcs (p + 1) k vc row f l e))

credit-there : (vcs p k vc : ℕ) (row : List Beat) → vc < vcs → (get_or row k idle_beat).credit ≡ Some vc → credit_from vcs p row ((p + k) * vcs + vc) ≡ true
credit-there vcs p k vc [] l e = absurd (cc e)
credit-there vcs p zero vc (beat ∷ row) l e =
    let at : p + 0 ≡ p = omega arith in
    let i = port-of vcs (p + 0) vc l in
    rw (eq-eqb (((p + 0) * vcs + vc) / vcs) p (i.0 ∙ at)) (ap (λ (o : Option ℕ). is_some_of o (((p + 0) * vcs + vc) % vcs)) e ∙ eq-eqb vc (((p + 0) * vcs + vc) % vcs) (sym i.1))
credit-there vcs p (suc k) vc (beat ∷ row) l e =
    let at : p + suc k ≡ p + 1 + k = omega arith in
    let i = port-of vcs (p + suc k) vc l in
    rw (ne_eqb (((p + suc k) * vcs + vc) / vcs) p (λ z. absurd (omega (arith, z, i.0))))
    (subst (λ q. credit_from vcs (p + 1) row (q * vcs + vc) ≡ true) (sym at) (credit-there vcs (p + 1) k vc row l e))

module _ (net : Setup) (setup : IsGoodSetup net) (n r : ℕ) (l : r < nodes net.relation.grid) where
  abbrev S : State
  S = state_at net n

  row-at : (port : ℕ) → port < local_port net.relation.grid → get_or (beats net setup n r l) port idle_beat ≡ beat_by net (state_at net n) r port (neighbour net.relation.grid r port)
  unfolding beats_in
  row-at port u =
      ap (λ row. get_or row port idle_beat) (get_or-tabulate (nodes net.relation.grid) r (λ s. tabulate (local_port net.relation.grid) (λ q. beat_by net (state_at net n) s q (neighbour net.relation.grid s q))) [] l)
      ∙ get_or-tabulate (local_port net.relation.grid) port (λ q. beat_by net (state_at net n) r q (neighbour net.relation.grid r q)) idle_beat u

  row-past : (port : ℕ) → local_port net.relation.grid ≤ port → get_or (beats net setup n r l) port idle_beat ≡ idle_beat
  unfolding beats_in
  row-past port u =
      ap (λ row. get_or row port idle_beat) (get_or-tabulate (nodes net.relation.grid) r (λ s. tabulate (local_port net.relation.grid) (λ q. beat_by net (state_at net n) s q (neighbour net.relation.grid s q))) [] l)
      ∙ get_or_past (tabulate (local_port net.relation.grid) (λ q. beat_by net (state_at net n) r q (neighbour net.relation.grid r q))) port idle_beat (let k = length-tabulate (local_port net.relation.grid) (λ q. beat_by net (state_at net n) r q (neighbour net.relation.grid r q)) in omega (arith, k, u))

  -- a beat that carries something is of a channel of the router
  flit-low : (port : ℕ) (from : Option (ℕ × ℕ)) (vc : ℕ) (f : Flit) → (beat_by net S r port from).flit ≡ Some (vc, f) → vc < net.relation.vcs
  flit-low port None vc f e = absurd (cc e)
  flit-low port (Some from) vc f e = at (find (λ v. is_some (flit_on net S (Link from.0 from.1 v))) (below net.relation.vcs)) refl e
    where
      at : (o : Option ℕ) → find (λ v. is_some (flit_on net S (Link from.0 from.1 v))) (below net.relation.vcs) ≡ o
          → first_of (λ v. flit_on net S (Link from.0 from.1 v)) o ≡ Some (vc, f) → vc < net.relation.vcs
      at None k h = absurd (cc h)
      at (Some v) k h =
          let low = Has-below v net.relation.vcs (find-has (λ v. is_some (flit_on net S (Link from.0 from.1 v))) (below net.relation.vcs) v k) in
          by (flit_on net S (Link from.0 from.1 v)) h low
        where
          by : (o : Option Flit) → on_channel v o ≡ Some (vc, f) → v < net.relation.vcs → vc < net.relation.vcs
          by None g low = absurd (cc g)
          by (Some x) g low = let same : v ≡ vc = ap (λ (one : ℕ × Flit). one.0) (same_Some (v, x) (vc, f) g) in omega (arith, low, same)

  credit-low : (port : ℕ) (from : Option (ℕ × ℕ)) (vc : ℕ) → (beat_by net S r port from).credit ≡ Some vc → vc < net.relation.vcs
  credit-low port None vc e = absurd (cc e)
  credit-low port (Some from) vc e = Has-below vc net.relation.vcs (find-has (λ v. has_channel S.back (Link r port v)) (below net.relation.vcs) vc e)

  -- words of the wires without a member: no beat is on them
  pub words-silent : (tails : ℕ) → ShowsWires (view_at net n r) 0 tails 0 (beats net setup n r l) → IsSilent (beats net setup n r l)
  words-silent tails shows port = at (cases_lt port (local_port net.relation.grid))
    where
      within : (vc : ℕ) → port < local_port net.relation.grid → vc < net.relation.vcs → port * net.relation.vcs + vc < size_of (view_at net n r).site
      within vc u low =
          subst (λ (s : Site). port * net.relation.vcs + vc < size_of s) (sym (view_at-seen net n r).site)
          (in-size net (good net setup) port vc (omega (arith, u)) low)

      vcs : (view_at net n r).site.vcs ≡ net.relation.vcs
      vcs = ap (λ (s : Site). s.vcs) (view_at-seen net n r).site

      beat : Beat
      beat = get_or (beats net setup n r l) port idle_beat

      no_flit : (u : port < local_port net.relation.grid) (o : Option (ℕ × Flit)) → beat.flit ≡ o → o ≡ None
      no_flit u None e = refl
      no_flit u (Some (vc, f)) e =
          let low = flit-low port (neighbour net.relation.grid r port) vc f (sym (ap (λ (b : Beat). b.flit) (row-at port u)) ∙ e) in
          let there = subst (λ q. flit_from net.relation.vcs 0 (beats net setup n r l) (q * net.relation.vcs + vc) ≡ Some f) (zero-add port) (flit-there net.relation.vcs 0 port vc (beats net setup n r l) f low e) in
          let none = sym (has_bit-zero (port * net.relation.vcs + vc)) ∙ shows.comes (port * net.relation.vcs + vc) (within vc u low) in
          absurd (false≢true (none ∙ ap (λ k. is_some (flit_from k 0 (beats net setup n r l) (port * net.relation.vcs + vc))) vcs ∙ ap is_some there))

      no_credit : (u : port < local_port net.relation.grid) (o : Option ℕ) → beat.credit ≡ o → o ≡ None
      no_credit u None e = refl
      no_credit u (Some vc) e =
          let low = credit-low port (neighbour net.relation.grid r port) vc (sym (ap (λ (b : Beat). b.credit) (row-at port u)) ∙ e) in
          let there = subst (λ q. credit_from net.relation.vcs 0 (beats net setup n r l) (q * net.relation.vcs + vc) ≡ true) (zero-add port) (credit-there net.relation.vcs 0 port vc (beats net setup n r l) low e) in
          let none = sym (has_bit-zero (port * net.relation.vcs + vc)) ∙ shows.returns (port * net.relation.vcs + vc) (within vc u low) in
          absurd (false≢true (none ∙ ap (λ k. credit_from k 0 (beats net setup n r l) (port * net.relation.vcs + vc)) vcs ∙ there))

      idle : (b : Beat) → b.flit ≡ None → b.credit ≡ None → b ≡ idle_beat
      idle b e f = ap (λ o. beat_of o b.credit) e ∙ ap (λ o. beat_of None o) f

      at : (port < local_port net.relation.grid) ⊎ (local_port net.relation.grid ≤ port) → get_or (beats net setup n r l) port idle_beat ≡ idle_beat
      at (inl u) = idle beat (no_flit u beat.flit refl) (no_credit u beat.credit refl)
      at (inr u) = row-past port u

-- ---- the words show the view as long as it stays but for what it has counted and found

abbrev but_seen : List (List ℕ) → ℕ → List Finding → View → View
but_seen counts given findings v = record v { counts = counts; given = given; findings = findings }

seen-column : (count : ℕ) (c : Column) (m : RouterMarks) (counts : List (List ℕ)) (given : ℕ) (findings : List Finding) (v : View) → IsColumn count c m v → IsColumn count c m (but_seen counts given findings v)
seen-column count c m counts given findings v s = record {
  words = s.words;
  channels = record {
    inputs = s.channels.inputs;
    outputs = s.channels.outputs;
    supplied = s.channels.supplied;
    waiting_below = s.channels.waiting_below;
    active_below = s.channels.active_below;
    idle_below = s.channels.idle_below;
    draining_below = s.channels.draining_below;
    len_below = s.channels.len_below;
  };
  turns = record { inputs = s.turns.inputs; channels = s.turns.channels; outputs = s.turns.outputs };
  marks = record { phases = s.marks.phases; holders = s.marks.holders; packets = s.marks.packets; to_port = s.marks.to_port };
  sending = s.sending;
}

-- a view but for what it has counted and found, and the cycle that was last
abbrev pub bare : View → View
bare v = record v { counts = []; given = 0; findings = [] }

-- none of these is a part of what is shown of it
pub bare-column : (count : ℕ) (c : Column) (m : RouterMarks) (v w : View) → bare v ≡ bare w → IsColumn count c m v → IsColumn count c m w
bare-column count c m v w e s =
    seen-column count c m w.counts w.given w.findings (bare w) (subst (λ (u : View). IsColumn count c m u) e (seen-column count c m [] 0 [] v s))
