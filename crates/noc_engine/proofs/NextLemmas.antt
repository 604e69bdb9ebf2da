-- A tile that has run a cycle and has heard of what comes to it: once that is gathered it shows the
-- next count.
use Rattle.std.proofs.Common.{◌≡◌, ℕ, ◌+◌, ◌-◌, ◌*◌, ◌/◌, ◌%◌, ◌<◌, ◌≤◌, Bool, true, false, Vec, Global, length, Option, Some, None, refl, ap, ap₂, sym, ◌∙◌, subst, arith, add-one}
use Rattle.std.specs.Prelude.{◌||◌, slice_get, unwrap_or, if◌then◌else◌}
use Rattle.std.proofs.lemmas.Bool.{le-ltb, lt-ltb, or_left, or_right}
use Rattle.std.proofs.lemmas.Nat.{div-add-mod', div-mul-add, div_below, mod_below}
use Rattle.std.proofs.lemmas.Option.{slice_get_within}
use Rattle.noc_packet.specs.Set.{has_bit}
use Rattle.noc_topo.specs.Shape.{Grid, IsGrid, local_port, neighbour, nodes, ports}
use Rattle.noc_topo.proofs.LinkLemmas.{link_back}
use Rattle.noc_sets.specs.Cycle.{Links as Left, Router, Turn}
use Rattle.noc_sets.specs.Layout.{Layout}
use Rattle.noc_theory.specs.Network.{Setup}
use Rattle.noc_theory_bits.specs.Network.{HasGathered, HasRunOwn, IsOwn, IsTurn, ShowsOwn, numbers_in, tells_in}
use Rattle.noc_theory_bits.specs.Owners.{granted_to, heard, heard_over}
use Rattle.noc_theory_bits.specs.Sends.{Sends}
use Rattle.noc_theory_bits.proofs.bits.OwnLemmas.{own-next}
use Rattle.noc_columns.specs.Heads.{packet_in}
use Rattle.noc_columns.specs.declared.channels.Links.{Links}
use Rattle.noc_columns.specs.declared.ports.RouterPorts.{RouterPorts}
use Rattle.noc_counts.specs.declared.counts.Counts.{Counts}
use Rattle.noc_cycles.specs.Gathered.{ShowsLeft, brought, left_by}
use Rattle.noc_cycles.specs.Held.{ShowsHeld, held_at, links_at}
use Rattle.noc_cycles.specs.declared.block.Block.{Block}
use Rattle.noc_cycles.specs.declared.block.Work.{Work}
use Rattle.noc_cycles.specs.declared.pattern.Pattern.{Pattern}
use Rattle.noc_theory_cycles.specs.Fits.{bits_of, layout_of}
use Rattle.noc_theory_cycles.specs.Nodes.{IsNodeTurn, ShowsNode}
use Rattle.noc_theory_cycles.specs.Steps.{router_after}
use Rattle.noc_theory_cycles.proofs.NodeLemmas.{node-blank, node-sends, node-turn}
use Rattle.noc_theory_cycles.proofs.StepLemmas.{brought-same, turn-after, turn-shown}
use Rattle.noc_engine.specs.Passes.{HaveGathered, coming, packets_or}
use Rattle.noc_engine.specs.Shows.{ShowsBlock, has_block, has_router, words_in}
use Rattle.noc_engine.specs.Tiles.{AreNear, HasRunBlock, HasRunTile, HasStepped, granted_in, left_of}
use Rattle.noc_engine.specs.declared.plan.Plan.{Plan}
use Rattle.noc_engine.specs.declared.tile.Tile.{Tile}
use Rattle.noc_engine.proofs.ListLemmas.{place-of, there}
use Rattle.noc_engine.proofs.WholeLemmas.{block-is, is-block, is-router, own-fewer, plan-fits}

module _ (net : Setup) (plan : Plan) (n : ℕ) (from : ℕ → Bool) (words : ℕ → Router) (turns : ℕ → Turn) (was is : Tile) (run : HasRunTile net plan n from words turns was is) where
  abbrev g : Grid
  g = net.relation.grid

  abbrev vcs : ℕ
  vcs = net.relation.vcs

  abbrev pattern : Pattern
  pattern = plan.pattern

  abbrev all : RouterPorts
  all = plan.pattern.table.ports

  abbrev layout : Layout
  layout = layout_of plan.pattern

  abbrev own : ℕ → Bool
  own s = has_router is s

  sound : IsGrid g
  sound = run.good.relation.table.grid

  some-vcs : 0 < vcs
  some-vcs = run.good.relation.table.some_vcs

  -- ---- block b
  module _ (b : ℕ) (inside : b < length is.blocks.items) where
    a-block : (x : Block) × (slice_get is.blocks.items b ≡ Some x)
    a-block = there is.blocks.items b inside

    a-count : (x : Counts) × (slice_get is.counts.items b ≡ Some x)
    a-count = there is.counts.items b (let long = run.lists.counts_are in omega (arith, long, inside))

    ran : HasRunBlock net plan n (is.first + b) from words turns a-block.0 a-count.0
    ran = run.blocks b a-block.0 a-count.0 a-block.1 a-count.1

    -- before the cycle
    was-shown : (block : Block) × (work : Work) × (counts : Counts) × ShowsBlock net plan n (is.first + b) words block work.came counts
    was-shown =
        let low : b < length was.blocks.items = let long = run.blocks_are in omega (arith, inside, long) in
        let block = there was.blocks.items b low in
        let work = there was.works.items b (let long = run.before.lists.works_are in omega (arith, low, long)) in
        let counts = there was.counts.items b (let long = run.before.lists.counts_are in omega (arith, low, long)) in
        (block.0, work.0, counts.0, subst (λ f. ShowsBlock net plan n (f + b) words block.0 work.0.came counts.0) (sym run.first_is) (run.before.blocks b block.0 work.0 counts.0 block.1 work.1 counts.1))

    -- its router r
    module _ (r : ℕ) (low : r < 64) where
      node-was : ShowsNode (bits_of pattern) net pattern n (64 * (is.first + b) + r) (links_at all was-shown.1.came r) (held_at all was-shown.0 r) (words (64 * (is.first + b) + r))
      node-was = was-shown.3.routers r low

      sends-at : (port : ℕ) → 64 * (is.first + b) + r < nodes g → port < ports g
          → Sends net n (64 * (is.first + b) + r) port (turns (64 * (is.first + b) + r)).left (tells_in net layout n (words (64 * (is.first + b) + r)) (turns (64 * (is.first + b) + r)))
      sends-at = node-sends (bits_of pattern) net layout pattern n (64 * (is.first + b) + r) _ _ (words (64 * (is.first + b) + r)) run.good run.few (plan-fits net plan run.good run.before.plan_is) node-was (turns (64 * (is.first + b) + r)) (ran.turn r low)

  -- ---- own router s
  module _ (s : ℕ) (k : IsOwn net own s) where
    block-in : s / 64 - is.first < length is.blocks.items
    block-in = let both = block-is is (s / 64) k.1 in omega (arith, both.0, both.1)

    whole : 64 * (is.first + (s / 64 - is.first)) + s % 64 ≡ s
    whole = let both = block-is is (s / 64) k.1 in omega (arith, both.0)

    in-block : s % 64 < 64
    in-block = mod_below s 64 (omega arith)

    makes-turn : IsTurn net layout n s (words s) (turns s)
    makes-turn = node-turn (bits_of pattern) net layout pattern n s (words s) (turns s) (plan-fits net plan run.good run.before.plan_is)
        (subst (λ t. IsNodeTurn net pattern layout n t (words t) (turns t)) whole ((ran (s / 64 - is.first) block-in).turn (s % 64) in-block))

    own-sends : (port : ℕ) → port < ports g → Sends net n s port (turns s).left (tells_in net layout n (words s) (turns s))
    own-sends port low =
        subst (λ t. Sends net n t port (turns t).left (tells_in net layout n (words t) (turns t))) whole
        (sends-at (s / 64 - is.first) block-in (s % 64) in-block port (subst (λ t. t < nodes g) (sym whole) k.0) low)

  before-own : ShowsOwn (bits_of pattern) net own n (words_in words was)
  before-own = own-fewer (bits_of pattern) net (has_router was) own n (words_in words was) (λ r e.
      let both = block-is is (r / 64) e in
      let same = run.first_is in
      let long = run.blocks_are in
      is-block was (r / 64) (omega (arith, both.0, same)) (omega (arith, both.1, same, long))) run.before.shows

  -- ---- once it has heard all that comes
  module _ (hears_own : (b : ℕ) → has_block is b ≡ true → from b ≡ true) (near : AreNear net is from) where
    -- what has left routers, and what they have told
    abbrev left : ℕ → Left
    left s = if own s then (turns s).left else left_of all is.left.items s

    abbrev tells : ℕ → ℕ → Option ℕ
    tells s o = if own s then tells_in net layout n (words s) (turns s) o else granted_in net n from s o

    from-own : (s : ℕ) → own s ≡ true → from (s / 64) ≡ true
    from-own s e = hears_own (s / 64) e

    -- .. is told by the words of their blocks
    module _ (s : ℕ) (known : s < nodes g) where
      module _ (port : ℕ) (low : port < local_port g) where
        told-of : (own s || from (s / 64)) ≡ true → Sends net n s port (left_of all is.left.items s) (granted_to net n s)
        told-of e = run.left s port known e low

      channel : (o : ℕ) → o < local_port g * vcs → (o / vcs < local_port g) × (o / vcs * vcs + o % vcs ≡ o)
      channel o l = (div_below o vcs (local_port g) some-vcs l, div-add-mod' o vcs)

      words-left : (x : Bool) → own s ≡ x → ShowsLeft (local_port g * vcs) (links_at all (left_by is.left.items (s / 64)) (s % 64)) (if x then (turns s).left else left_of all is.left.items s)
      words-left false e = record { flits = λ o l. refl; tails = λ o l. refl; credits = λ o l. refl }
      words-left true e = record {
        flits = λ o l.
            let at = channel o l in
            subst (λ i. has_bit (left_of all is.left.items s).flits i ≡ has_bit (turns s).left.flits i) at.1
            ((told-of (o / vcs) at.0 (or_left _ _ e)).beat.flits (o % vcs) (mod_below o vcs some-vcs) ∙ sym ((own-sends s (known, e) (o / vcs) (omega (arith, at.0))).beat.flits (o % vcs) (mod_below o vcs some-vcs)));
        tails = λ o l.
            let at = channel o l in
            subst (λ i. has_bit (left_of all is.left.items s).tails i ≡ has_bit (turns s).left.tails i) at.1
            ((told-of (o / vcs) at.0 (or_left _ _ e)).beat.tails (o % vcs) (mod_below o vcs some-vcs) ∙ sym ((own-sends s (known, e) (o / vcs) (omega (arith, at.0))).beat.tails (o % vcs) (mod_below o vcs some-vcs)));
        credits = λ o l.
            let at = channel o l in
            subst (λ i. has_bit (left_of all is.left.items s).credits i ≡ has_bit (turns s).left.credits i) at.1
            ((told-of (o / vcs) at.0 (or_left _ _ e)).beat.credits (o % vcs) (mod_below o vcs some-vcs) ∙ sym ((own-sends s (known, e) (o / vcs) (omega (arith, at.0))).beat.credits (o % vcs) (mod_below o vcs some-vcs)));
      }

    comes : (s : ℕ) → s < nodes g → coming net all is.left.items s ≡ brought g vcs left s
    comes s l =
        ap (λ b. if b then brought g vcs (left_of all is.left.items) s else record { flits = 0; tails = 0; credits = 0 }) (lt-ltb s (nodes g) l)
        ∙ brought-same g vcs s (λ t. links_at all (left_by is.left.items (t / 64)) (t % 64)) left sound some-vcs l (λ t u. words-left t u (own t) refl)

    comes-nothing : (s : ℕ) → nodes g ≤ s → coming net all is.left.items s ≡ record { flits = 0; tails = 0; credits = 0 }
    comes-nothing s u = ap (λ b. if b then brought g vcs (left_of all is.left.items) s else record { flits = 0; tails = 0; credits = 0 }) (le-ltb s (nodes g) u)

    -- what is heard is what the network tells
    told-same : (s o : ℕ) → s < nodes g → o / vcs < ports g → tells s o ≡ granted_in net n from s o
    told-same s o known low = at (own s) refl
      where
        at : (x : Bool) → own s ≡ x → (if x then tells_in net layout n (words s) (turns s) o else granted_in net n from s o) ≡ granted_in net n from s o
        at false e = refl
        at true e =
            subst (λ i. tells_in net layout n (words s) (turns s) i ≡ granted_to net n s i) (div-add-mod' o vcs) ((own-sends s (known, e) (o / vcs) low).told (o % vcs) (mod_below o vcs some-vcs))
            ∙ ap (λ (b : Bool). if b then granted_to net n s o else None) (sym (from-own s e))

    heard-same : (s i : ℕ) → s < nodes g → heard g vcs (granted_in net n from) s i ≡ heard g vcs tells s i
    heard-same s i known = at (neighbour g s (i / vcs)) refl
      where
        at : (o : Option (ℕ × ℕ)) → neighbour g s (i / vcs) ≡ o → heard_over vcs (granted_in net n from) (i % vcs) o ≡ heard_over vcs tells (i % vcs) o
        at None e = refl
        at (Some (to, port)) e =
            let back = link_back g s (i / vcs) to port sound known e in
            let low = back.port in
            let vc = mod_below i vcs some-vcs in
            let at_port : (port * vcs + i % vcs) / vcs ≡ port = div-mul-add port vcs (i % vcs) vc in
            sym (told-same to (port * vcs + i % vcs) back.node (omega (arith, at_port, low)))

    -- ---- the next words
    abbrev pub next : ℕ → Router
    next s = router_after (turns s) (packets_or (slice_get is.blocks.items (s / 64 - is.first)) (s % 64)) (coming net all is.left.items s)

    gathers : (s : ℕ) → IsOwn net own s → HasGathered g vcs left tells (numbers_in net layout n (words s)) s (next s)
    gathers s k =
        let b = s / 64 - is.first in
        let inside = block-in s k in
        record {
          flits = ap (λ (x : Links ℕ). x.flits) (comes s k.0);
          tails = ap (λ (x : Links ℕ). x.tails) (comes s k.0);
          credits = ap (λ (x : Links ℕ). x.credits) (comes s k.0);
          packet = λ i u.
              ap (λ (o : Option Block). packets_or o (s % 64) i) (a-block b inside).1
              ∙ (ran b inside).packets (s % 64) i (in-block s k) (subst (λ t. t < nodes g) (sym (whole s k)) k.0) u
              ∙ ap (λ t. unwrap_or (heard g vcs (granted_in net n from) t i) (numbers_in net layout n (words t) i)) (whole s k)
              ∙ ap (λ (o : Option ℕ). unwrap_or o (numbers_in net layout n (words s) i)) (heard-same s i k.0);
        }

    sent : (r q s port : ℕ) → IsOwn net own r → neighbour g r q ≡ Some (s, port) → own s ≡ false → Sends net n s port (left s) (tells s)
    sent r q s port k e away =
        let back = link_back g r q s port sound k.0 e in
        let heard_from : from (s / 64) ≡ true = near s q r port k.0 k.1 e away in
        let one = run.left s port back.node (or_right _ _ heard_from) back.port in
        subst (λ (b : Bool). Sends net n s port (if b then (turns s).left else left_of all is.left.items s) (λ o. if b then tells_in net layout n (words s) (turns s) o else granted_in net n from s o)) (sym away)
        (subst (λ (b : Bool). Sends net n s port (left_of all is.left.items s) (λ o. if b then granted_to net n s o else None)) (sym heard_from) one)

    module _ (works : Vec Work Global) (long : length works.items ≡ length is.blocks.items) (gathered : HaveGathered net all is.first is.left.items works.items) where
      abbrev pub now : Tile
      now = record is { works = works }

      runs : HasRunOwn net layout own n (words_in words was) turns left tells (words_in next now)
      runs = record {
        turns = makes-turn;
        left_are = λ s k. ap (λ (b : Bool). if b then (turns s).left else left_of all is.left.items s) k.1;
        told_are = λ s o k u. ap (λ (b : Bool). if b then tells_in net layout n (words s) (turns s) o else granted_in net n from s o) k.1;
        sent = sent;
        gathered_are = gathers;
        are = λ r k. turn-after (turns r) (packets_or (slice_get is.blocks.items (r / 64 - is.first)) (r % 64)) (coming net all is.left.items r);
        last = run.last;
        arrivals = run.arrivals;
      }

      own-shown : ShowsOwn (bits_of pattern) net own (n + 1) (words_in next now)
      own-shown = subst (λ m. ShowsOwn (bits_of pattern) net own m (words_in next now)) (sym (add-one n)) (own-next net run.good layout (plan-fits net plan run.good run.before.plan_is).layout_is own n (words_in words was) turns left tells (words_in next now) run.few before-own runs)

      -- ---- block by block
      module _ (b : ℕ) (block : Block) (work : Work) (counts : Counts) (at : slice_get is.blocks.items b ≡ Some block) (doing : slice_get works.items b ≡ Some work) (on : slice_get is.counts.items b ≡ Some counts) where
        inside : b < length is.blocks.items
        inside = slice_get_within is.blocks.items b block at

        has : HasRunBlock net plan n (is.first + b) from words turns block counts
        has = run.blocks b block counts at on

        module _ (r : ℕ) (low : r < 64) where
          abbrev s : ℕ
          s = 64 * (is.first + b) + r

          packets-are : packets_or (slice_get is.blocks.items (s / 64 - is.first)) (s % 64) ≡ packet_in block.packets r
          packets-are =
              let e : s / 64 - is.first ≡ b = omega (arith, low) in
              ap₂ (λ k q. packets_or (slice_get is.blocks.items k) q) e (place-of (is.first + b) r low) ∙ ap (λ (o : Option Block). packets_or o r) at

          held : ShowsHeld pattern (held_at all block r) (coming net all is.left.items s) (next s)
          held = subst (λ (p : ℕ → ℕ). ShowsHeld pattern (held_at all block r) (coming net all is.left.items s) (router_after (turns s) p (coming net all is.left.items s))) (sym packets-are)
              (turn-shown pattern (record (held_at all block r) { packet = (turns s).marks.packet }) (turns s) (packet_in block.packets r) (coming net all is.left.items s) (has.shows r low))

          blank-links : nodes g ≤ s → coming net all is.left.items s ≡ record { flits = 0; tails = 0; credits = 0 }
          blank-links u = comes-nothing s u

          node-then : ShowsNode (bits_of pattern) net pattern (n + 1) s (coming net all is.left.items s) (held_at all block r) (next s)
          node-then = record {
            held = held;
            shows = λ l. own-shown.routers s (l, is-router is b r inside low);
            blank = λ u. node-blank (bits_of pattern) net layout pattern n s _ _ (words s) run.good run.few (plan-fits net plan run.good run.before.plan_is) (node-was b inside r low) (turns s) (has.turn r low) u (next s)
                (turn-after (turns s) (packets_or (slice_get is.blocks.items (s / 64 - is.first)) (s % 64)) (coming net all is.left.items s))
                (ap (λ (x : Links ℕ). x.flits) (blank-links u)) (ap (λ (x : Links ℕ). x.credits) (blank-links u));
          }

        block-then : ShowsBlock net plan (n + 1) (is.first + b) next block work.came counts
        block-then = record {
          routers = λ r l. subst (λ (x : Links ℕ). ShowsNode (bits_of pattern) net pattern (n + 1) (64 * (is.first + b) + r) x (held_at all block r) (next (64 * (is.first + b) + r))) (sym (gathered b r work doing l)) (node-then r l);
          counted = has.counted;
          few = has.few;
          before = n;
          known = omega arith;
          punctual = has.punctual;
        }

      pub has-stepped : HasStepped net plan n words next was now
      has-stepped = record {
        first_is = run.first_is;
        blocks_are = run.blocks_are;
        shows = record {
          plan_is = run.before.plan_is;
          cycle = run.cycle;
          lists = record {
            within = run.lists.within;
            works_are = long;
            counts_are = run.lists.counts_are;
            room = run.lists.room;
            left_are = run.lists.left_are;
            arrivals_are = run.lists.arrivals_are;
          };
          blocks = block-then;
          shows = own-shown;
        };
        counted = λ b r i counts on low u.
            let inside : b < length is.blocks.items = let l = slice_get_within is.counts.items b counts on in let same = run.lists.counts_are in omega (arith, l, same) in
            (run.blocks b (a-block b inside).0 counts (a-block b inside).1 on).last r i low u;
        due = λ b block at.
            let inside = slice_get_within is.blocks.items b block at in
            (run.blocks b block (a-count b inside).0 at (a-count b inside).1).punctual.due;
      }
