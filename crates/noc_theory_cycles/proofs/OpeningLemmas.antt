-- The routers of opened blocks show a network before its first cycle.
use Rattle.std.proofs.Common.{◌≡◌, ℕ, ◌+◌, ◌*◌, ◌/◌, ◌%◌, ◌<◌, ◌≤◌, List, Option, ap, arith, refl, subst, sym, ◌∙◌}
use Rattle.std.specs.Prelude.{unwrap_or}
use Rattle.std.proofs.lemmas.Option.{slice_get_past}
use Rattle.noc_topo.specs.Shape.{nodes, ports}
use Rattle.noc_sets.specs.Opening.{AreEmptyMarks, IsEmptyColumn}
use Rattle.noc_sets.specs.Source.{NEVER}
use Rattle.noc_theory.specs.Good.{IsGoodSetup}
use Rattle.noc_theory.specs.Network.{Setup}
use Rattle.noc_theory_bits.specs.Network.{HasOpened, HaveOpened, ShowsNetwork}
use Rattle.noc_theory_bits.specs.Starts.{opened_source}
use Rattle.noc_theory_bits.proofs.bits.OpeningLemmas.{network-opens, router-opens}
use Rattle.noc_columns.specs.declared.words.TheConstants.{ROUTERS}
use Rattle.noc_columns.specs.declared.channels.Inputs.{Inputs}
use Rattle.noc_cycles.specs.Held.{Held, held_at}
use Rattle.noc_cycles.specs.Opened.{HoldsNothing, IsOpened, first_in, no_links, router_of}
use Rattle.noc_cycles.specs.Patterns.{IsPatternOf}
use Rattle.noc_cycles.specs.declared.block.Block.{Block}
use Rattle.noc_cycles.specs.declared.first.First.{First}
use Rattle.noc_cycles.specs.declared.pattern.Pattern.{Pattern}
use Rattle.noc_cycles.proofs.EmptyLemmas.{holds-column, holds-marks, holds-shown}
use Rattle.noc_theory_cycles.specs.Firsts.{AreFirsts}
use Rattle.noc_theory_cycles.specs.Fits.{bits_of, layout_of}
use Rattle.noc_theory_cycles.specs.Nodes.{ShowsNode}
use Rattle.noc_theory_cycles.specs.Steps.{held_in, opened_words}
use Rattle.noc_theory_cycles.proofs.BlankMayLemmas.{opened-blank, words-blank}
use Rattle.noc_theory_cycles.proofs.LayoutLemmas.{fits-layout, fits-network, size-is}

module _ (net : Setup) (setup : IsGoodSetup net) (pattern : Pattern) (of : IsPatternOf net.relation.grid net.relation.vcs net.depth pattern) (firsts : List First) (are : AreFirsts net.packets (nodes net.relation.grid) firsts) (b r : ℕ) (block : Block)
    (opened : IsOpened pattern firsts b block) (l : r < ROUTERS) where
  abbrev node : ℕ
  node = ROUTERS * b + r

  abbrev h : Held
  h = held_at pattern.table.ports block r

  holds : HoldsNothing pattern (first_in firsts (ROUTERS * b + r)) r (held_at pattern.table.ports block r)
  holds = opened.routers r l

  -- of a router of the network
  is-first : node < nodes net.relation.grid → (router_of pattern h).source ≡ opened_source net.packets node
  is-first small =
      holds.source
      ∙ ap (λ (x : Option First). let one = unwrap_or x (record { place = 0; due = NEVER }) in record { due = one.due; left = 0; queue = one.place }) (are.each node small)

  pub has-opened : node < nodes net.relation.grid → HasOpened (bits_of pattern) net (layout_of pattern) node (router_of pattern h)
  has-opened small = record {
    column = subst (λ m. IsEmptyColumn (bits_of pattern) m (layout_of pattern).links (layout_of pattern).local net.depth (router_of pattern h).column) (sym (size-is net setup pattern of))
        (holds-column pattern (first_in firsts node) r h holds (layout_of pattern) net.depth l (fits-layout net.relation.grid net.relation.vcs net.depth pattern of) (of.places_are r l));
    marks = subst (λ p. AreEmptyMarks p (ports net.relation.grid * net.relation.vcs) (router_of pattern h).marks) (sym (fits-network net setup pattern of).ports.count)
        (subst (λ m. AreEmptyMarks (pattern.table.ports.links.width + 1) m (router_of pattern h).marks) (sym (size-is net setup pattern of)) (holds-marks pattern (first_in firsts node) r h holds));
    ended = ap (λ (i : Inputs ℕ). i.ended) holds.inputs;
    links = refl;
    source = is-first small;
    counts = λ i. refl;
  }

  -- of one that the network does not have
  never-due : nodes net.relation.grid ≤ node → (first_in firsts node).due ≡ NEVER
  never-due large = ap (λ (x : Option First). (unwrap_or x (record { place = 0; due = NEVER })).due) (slice_get_past firsts node (subst (λ m. m ≤ node) (sym are.many) large))

  pub node-opens : ShowsNode (bits_of pattern) net pattern 0 (ROUTERS * b + r) no_links (held_at pattern.table.ports block r) (router_of pattern (held_at pattern.table.ports block r))
  node-opens = record {
    held = holds-shown pattern (first_in firsts node) r h holds;
    shows = λ small. router-opens (bits_of pattern) net setup (layout_of pattern) (fits-network net setup pattern of).layout_is node small (router_of pattern h) (has-opened small);
    blank = λ large. words-blank pattern h (opened-blank pattern (first_in firsts node) r h holds (never-due large));
  }

-- ---- all of them
module _ (net : Setup) (setup : IsGoodSetup net) (pattern : Pattern) (of : IsPatternOf net.relation.grid net.relation.vcs net.depth pattern) (firsts : List First) (are : AreFirsts net.packets (nodes net.relation.grid) firsts) (blocks : ℕ) (block : ℕ → Block)
    (enough : nodes net.relation.grid ≤ ROUTERS * blocks) (opened : (b : ℕ) → b < blocks → IsOpened pattern firsts b (block b)) where
  place : (s : ℕ) → ROUTERS * (s / ROUTERS) + s % ROUTERS ≡ s
  place s = omega arith

  block-small : (s : ℕ) → s < ROUTERS * blocks → s / ROUTERS < blocks
  block-small s l = omega (arith, l)

  is-opened : (s : ℕ) → s < ROUTERS * blocks → IsOpened pattern firsts (s / ROUTERS) (block (s / ROUTERS))
  is-opened s l = opened (s / ROUTERS) (block-small s l)

  small : (s : ℕ) → s < nodes net.relation.grid → s < ROUTERS * blocks
  small s l = omega (arith, l, enough)

  have-opened : HaveOpened (bits_of pattern) net (layout_of pattern) (opened_words pattern (held_in pattern.table.ports block))
  have-opened = record {
    routers = λ s l.
        subst (λ m. HasOpened (bits_of pattern) net (layout_of pattern) m (router_of pattern (held_in pattern.table.ports block s))) (place s)
        (has-opened net setup pattern of firsts are (s / ROUTERS) (s % ROUTERS) (block (s / ROUTERS)) (is-opened s (small s l)) (omega arith) (subst (λ m. m < nodes net.relation.grid) (sym (place s)) l));
    last = refl;
    arrivals = λ p. refl;
  }

  pub all-open : ShowsNetwork (bits_of pattern) net 0 (opened_words pattern (held_in pattern.table.ports block))
  all-open = network-opens (bits_of pattern) net setup (layout_of pattern) (fits-network net setup pattern of).layout_is (opened_words pattern (held_in pattern.table.ports block)) have-opened
