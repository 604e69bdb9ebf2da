-- What is asked for, and who is ready, channel by channel.
use Rattle.std.proofs.Common.{◌≡◌, ℕ, ◌<◌, List, map, get_or, Option, None, ap, ◌∙◌}
use Rattle.std.specs.Prelude.{not}
use Rattle.std.proofs.lemmas.Simd.{map-map}
use Rattle.noc_topo.specs.Lists.{below, tabulate}
use Rattle.noc_topo.proofs.ListLemmas.{get_or-tabulate}
use Rattle.noc_vc.specs.Input.{is_empty}
use Rattle.noc_view.specs.Verdict.{Stand, ask_of, asks_of, ready_of, ready_port}
use Rattle.noc_view.specs.View.{View, size_of, view_buffer, view_claim, view_stand, view_stands}

-- f of each element of a table
pub map-tabulate : {X Y : Type 0} (f : X → Y) (n : ℕ) (g : ℕ → X) → map f (tabulate n g) ≡ tabulate n (λ i. f (g i))
unfolding tabulate
map-tabulate f n g = map-map f g (below n)

-- the asks and the ready ports of all channels
pub asks_of-stands : (v : View) → asks_of (view_stands v) ≡ tabulate (size_of v.site) (λ i. ask_of (view_claim v i))
asks_of-stands v = map-tabulate (λ (stand : Stand). ask_of stand.claim) (size_of v.site) (view_stand v)

pub ready_of-stands : (v : View) → ready_of v.site.vcs (view_stands v)
    ≡ tabulate (size_of v.site) (λ i. ready_port v.site.vcs (view_claim v i) (not (is_empty (view_buffer v i))))
ready_of-stands v = map-tabulate (λ (stand : Stand). ready_port v.site.vcs stand.claim stand.has_flit) (size_of v.site) (view_stand v)

-- the ask of one channel
pub ask_of-stand : (v : View) (asks : List (Option ℕ)) (i : ℕ) → asks ≡ asks_of (view_stands v) → i < size_of v.site → get_or asks i None ≡ ask_of (view_claim v i)
ask_of-stand v asks i e l = ap (λ xs. get_or xs i None) (e ∙ asks_of-stands v) ∙ get_or-tabulate (size_of v.site) i (λ k. ask_of (view_claim v k)) None l
