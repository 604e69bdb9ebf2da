use Rattle.std.proofs.Common.{◌≡◌, ℕ, ◌/◌, ◌%◌, ◌<◌, length, slice_index}
use Rattle.noc_columns.specs.Picks.{channels_of}
use Rattle.noc_columns.proofs.channel_table.ChannelTable.of.Given as goal

abbrev pub invariant-loop-c : goal.invariant-loop-c
invariant-loop-c l = record {
  index_size : length l.index ≡ 64;
  port_size : length l.port ≡ 64;
  vc_size : length l.vc ≡ 64;
  channel_size : length l.channel ≡ 64;
  stands : (k : ℕ) → k < l.c → slice_index l.index k ≡ (channels_of l.ports).index k;
  within : (k : ℕ) → k < l.c → slice_index l.index k < 72;
  by_port : (k : ℕ) → k < l.c → slice_index l.port k ≡ k / l.ports.links.vcs;
  by_vc : (k : ℕ) → k < l.c → slice_index l.vc k ≡ k % l.ports.links.vcs;
  by_index : (k : ℕ) → k < l.c → slice_index l.channel ((channels_of l.ports).index k) ≡ k;
}
