-- Marks with other numbers of packets show the same, where the numbers are those of the packets
-- that hold the channels.
use Rattle.std.proofs.Common.{◌≡◌, ℕ, ◌<◌, Option, Some, refl, ap, sym, ◌∙◌, subst}
use Rattle.std.specs.Prelude.{IfSome}
use Rattle.noc_vc.specs.declared.output.OutputState.TheVariants.{Idle as Free}
use Rattle.noc_theory_bits.proofs.Common.{OutputState, Owned, Draining, Site, View, size_of, view_input, view_output, Setup, State, size, IsSeen, Column, IsColumn, RouterMarks, ShowsHolder, ShowsHolders, holder_at}
use Rattle.noc_theory_bits.proofs.bits.HolderLemmas.{seen-packet}
use Rattle.noc_theory_bits.proofs.routers.ChosenLemmas.{phase-as}

-- ---- other numbers of packets
-- marks whose numbers are those of the packets that hold the channels show what the others show
pub with-packets : (net : Setup) (S : State) (r : ℕ) (v : View) → IsSeen net S r v → (count : ℕ) (c : Column) (m : RouterMarks) (packet : ℕ → ℕ) → IsColumn count c m v → ShowsHolders net S r packet
    → IsColumn count c (record m { packet = packet }) v
with-packets net S r v seen count c m packet shows holders = record {
  words = shows.words;
  channels = shows.channels;
  turns = record { inputs = shows.turns.inputs; channels = shows.turns.channels; outputs = shows.turns.outputs };
  marks = record {
    phases = λ i l. phase-as c c m (record m { packet = packet }) v.site i (view_input v i).phase refl refl (λ o e. e) (shows.marks.phases i l);
    holders = λ o l. holder o (view_output v o).holder (shows.marks.holders o l);
    packets = λ i l busy.
        let u : i < size net = subst (λ (s : Site). i < size_of s) seen.site l in
        let p = shows.marks.packets i l busy in
        let here : holder_at net S r i ≡ Some (m.packet i) = seen-packet net S r v seen i (m.packet i) u p in
        p ∙ ap Some (sym (subst (λ (o : Option ℕ). IfSome o (λ q. packet i ≡ q)) here (holders i u)));
    to_port = shows.marks.to_port;
  };
  sending = shows.sending;
}
  where
    holder : (o : ℕ) (h : OutputState) → ShowsHolder m o h → ShowsHolder (record m { packet = packet }) o h
    holder o Free t = tt
    holder o (Owned i p) t = t
    holder o Draining t = tt
