use Rattle.std.proofs.Common.{◌≡◌, ◌≢◌, ℕ, ◌/◌, ◌%◌, ◌+◌, ◌*◌, ◌<◌, ◌∙◌, List, length, arith, set, slice_index, subst, sym, get_or-set_same, get_or-set_other}
use Rattle.std.proofs.lemmas.List.{length-set}
use Rattle.noc_columns.specs.Picks.{channels_of}
use Rattle.noc_columns.specs.declared.ports.RouterPorts.{RouterPorts}
use Rattle.noc_columns.proofs.ChannelLemmas.{channels-apart, part, port-below, positive}
use Rattle.noc_columns.proofs.PassLemmas.{all-next}
use Rattle.noc_columns.proofs.UsedLemmas.{channels-few, index-below}
use Rattle.noc_columns.proofs.channel_table.ChannelTable.of.Goals as goal

-- one entry more
entry-next : (table : List ℕ) (i x : ℕ) (P : ℕ → ℕ → Type 0) → length table ≡ 64 → i < 64 → ((k : ℕ) → k < i → P k (slice_index table k)) → P i x → (k : ℕ) → k < i + 1 → P k (slice_index (set table i x) k)
entry-next table i x P long few done here = all-next (λ k. P k (slice_index (set table i x) k)) i
    (λ k l. let other : k ≢ i = omega (arith, l) in subst (P k) (sym (get_or-set_other table i k x 0 other)) (done k l))
    (subst (P i) (sym (get_or-set_same table i x 0 (omega (arith, long, few)))) here)

-- one more channel is written by the index of its word
back-next : (ports : RouterPorts) (table : List ℕ) (i at : ℕ) → length table ≡ 64 → i < (ports.links.width + 1) * ports.links.vcs → at ≡ (channels_of ports).index i
    → ((k : ℕ) → k < i → slice_index table ((channels_of ports).index k) ≡ k) → (k : ℕ) → k < i + 1 → slice_index (set table at i) ((channels_of ports).index k) ≡ k
back-next ports table i at long few is done =
    let index = (channels_of ports).index in
    let low = index-below ports i few in
    let room = channels-few ports in
    all-next (λ k. slice_index (set table at i) (index k) ≡ k) i
    (λ k l.
    let other : index k ≢ at = λ same. absurd (let e = channels-apart ports k i (omega (arith, l, few)) few (same ∙ is) in omega (arith, e, l)) in
    get_or-set_other table at (index k) i 0 other ∙ done k l)
    (subst (λ j. slice_index (set table at i) j ≡ i) is (get_or-set_same table at i 0 (omega (arith, long, low, room, is))))

pub loop-c-preserved : goal.loop-c-preserved
loop-c-preserved c =
    let inv = c.loop-c.invariant in
    let i = c.loop-c.c in
    let ports = c.args.ports in
    let few : i < 64 = omega arith in
    record {
      index_size = length-set c.loop-c.index i c.index-stands.result ∙ inv.index_size;
      port_size = length-set c.loop-c.port i (i / ports.links.vcs) ∙ inv.port_size;
      vc_size = length-set c.loop-c.vc i (i % ports.links.vcs) ∙ inv.vc_size;
      channel_size = length-set c.loop-c.channel c.index-stands.result i ∙ inv.channel_size;
      stands = entry-next c.loop-c.index i c.index-stands.result (λ k x. x ≡ (channels_of ports).index k) inv.index_size few inv.stands c.index-stands.ensures.is;
      within = entry-next c.loop-c.index i c.index-stands.result (λ k x. x < 72) inv.index_size few inv.within c.index-stands.ensures.within;
      by_port = entry-next c.loop-c.port i (i / ports.links.vcs) (λ k x. x ≡ k / ports.links.vcs) inv.port_size few inv.by_port (λ x. i / ports.links.vcs);
      by_vc = entry-next c.loop-c.vc i (i % ports.links.vcs) (λ k x. x ≡ k % ports.links.vcs) inv.vc_size few inv.by_vc (λ x. i % ports.links.vcs);
      by_index = back-next ports c.loop-c.channel i c.index-stands.result inv.channel_size (omega arith) c.index-stands.ensures.is inv.by_index;
    }

pub index-stands-requires-clause-some : goal.index-stands-requires-clause-some
index-stands-requires-clause-some c = positive c.args.ports.links.vcs (c.args.ports.links.width + 1) c.loop-c.c (omega arith)

pub nonzero_div-port : goal.nonzero_div-port
nonzero_div-port c = let some = positive c.args.ports.links.vcs (c.args.ports.links.width + 1) c.loop-c.c (omega arith) in omega (arith, some)

pub nonzero_rem-vc : goal.nonzero_rem-vc
nonzero_rem-vc c = let some = positive c.args.ports.links.vcs (c.args.ports.links.width + 1) c.loop-c.c (omega arith) in omega (arith, some)

pub overflow_cast-port : goal.overflow_cast-port
overflow_cast-port c = let below = port-below (c.args.ports.links.width + 1) c.args.ports.links.vcs (positive c.args.ports.links.vcs (c.args.ports.links.width + 1) c.loop-c.c (omega arith)) c.loop-c.c (omega arith) in omega (arith, below)

pub overflow_cast-vc : goal.overflow_cast-vc
overflow_cast-vc c = let below = part (c.args.ports.links.width + 1) c.args.ports.links.vcs (positive c.args.ports.links.vcs (c.args.ports.links.width + 1) c.loop-c.c (omega arith)) c.loop-c.c in omega (arith, below)

pub bounds-channel-stands : goal.bounds-channel-stands
bounds-channel-stands c =
    let ports = c.args.ports in
    let is = c.index-stands.ensures.is in
    omega (arith, is, index-below ports c.loop-c.c (omega arith), channels-few ports, c.loop-c.invariant.channel_size)
