-- The summary report.
use Rattle.std.specs.Prelude.{◌≡◌, ℕ, ◌+◌, ◌-◌, ◌*◌, ◌^◌, ◌<◌, ◌≤◌, ◌++◌, length, max, sum, fold, List, [], ◌∷◌, codes, Option, Some, None, unwrap_or, slice_index}
use Rattle.std.specs.Borrow.{Bor}
use Rattle.std.specs.List.{filter_map, flat_map}
use Rattle.noc_topo.specs.Lists.{below, tabulate, Each, Has}
use Rattle.noc_view.specs.Names.{column_name}
use Rattle.noc_view.specs.Verdict.{column}
use Rattle.noc_view.specs.declared.verdict.TheConstants.{VERDICTS}
use Rattle.noc_view.specs.declared.verdict.TheConstants.Verdict.{ALL}
use Rattle.noc_view.specs.declared.verdict.Verdict.{Verdict}
use Rattle.noc_theory.specs.Network.{Run}
use Rattle.noc_theory.specs.Progress.{last_event_before}
use Rattle.noc_net.specs.Latency.{latency_at}
use Rattle.noc_files.specs.Channels.{over_port, over_router, over_routers}
use Rattle.noc_files.specs.Stalls.{channel_counts}
use Rattle.noc_files.specs.Writing.{dash_or, text_of_pieces, line_end}
use Rattle.noc_files.specs.declared.summary.Summary.{Summary}

-- ---- what it says of a run

-- the latencies of the packets whose tails were out
abbrev pub latencies : Run → List ℕ
latencies u = filter_map (latency_at u) (below (length u.net.packets))

-- the greater of a number and the greatest of those before it, if there are any
abbrev pub greater_of : Option ℕ → ℕ → Option ℕ
greater_of greatest n = Some (max (unwrap_or greatest 0) n)

-- the greatest of some numbers, if there are any
abbrev pub greatest_of : List ℕ → Option ℕ
greatest_of ns = fold greater_of None ns

-- the greatest of some numbers: one of them, and none of them is above it
pub record IsGreatest (ns : List ℕ) (m : ℕ) : Type 0 where
  pub one_of_them : Has m ns
  pub none_above : Each (λ n. n ≤ m) ns

-- an input channel's count in a column of the stall report
unfoldable pub column_entry : Run → ℕ → ℕ → ℕ → ℕ → List ℕ
column_entry u column router port vc = slice_index (channel_counts u router port vc) column ∷ []

-- the sum of a column over the channels of an input port, of a router, and of all
unfoldable pub port_total : Run → ℕ → ℕ → ℕ → ℕ
port_total u router port column =
    sum (over_port u.net.relation router (column_entry u column router) port)

unfoldable pub router_total : Run → ℕ → ℕ → ℕ
router_total u router column =
    sum (over_router u.net.relation router (column_entry u column router))

unfoldable pub column_total : Run → ℕ → ℕ
column_total u column = sum (over_routers u.net.relation (column_entry u column))

-- no total is above n
abbrev pub AreUpTo : ℕ → List ℕ → Type 0
AreUpTo n totals = (column : ℕ) → column < VERDICTS → slice_index totals column ≤ n

-- each total is more by f of its column, which is at most so many numbers of 64 bits
pub record AreRaised (f : ℕ → ℕ) (numbers : ℕ) (old new : List ℕ) : Type 0 where
  pub more : (column : ℕ) → column < VERDICTS
      → slice_index new column ≡ slice_index old column + f column
  pub bound : (column : ℕ) → column < VERDICTS → f column ≤ numbers * 2 ^ 64

unfoldable pub summary_of : Run → Summary
summary_of u = record {
  cycles = u.count;
  packets = length u.net.packets;
  delivered = length (latencies u);
  left = length u.net.packets - length (latencies u);
  latency_sum = sum (latencies u);
  latency_max = greatest_of (latencies u);
  last_event = last_event_before u.net u.count;
  misfits = 0;
  totals = tabulate VERDICTS (column_total u);
}

-- ---- its text

-- a name, a space, and a number or a dash
abbrev pub summary_line : List ℕ × Option ℕ → List ℕ
summary_line entry = text_of_pieces (entry.0 ∷ codes " " ∷ dash_or entry.1 ∷ line_end ∷ [])

-- an entry as the code holds it
abbrev pub entry_value : Bor (List ℕ) × Option ℕ → List ℕ × Option ℕ
entry_value entry = (entry.0.now, entry.1)

-- the names of the summary before those of the verdicts, with what they say
unfoldable pub summary_entries : Summary → List (List ℕ × Option ℕ)
summary_entries s =
    (codes "cycles", Some s.cycles)
    ∷ (codes "packets", Some s.packets)
    ∷ (codes "delivered", Some s.delivered)
    ∷ (codes "left", Some s.left)
    ∷ (codes "latency_sum", Some s.latency_sum)
    ∷ (codes "latency_max", s.latency_max)
    ∷ (codes "last_event", s.last_event)
    ∷ (codes "misfits", Some s.misfits)
    ∷ []

-- the line of a verdict, by the totals of all
abbrev pub total_line : List ℕ → Verdict → List ℕ
total_line totals verdict =
    summary_line (column_name verdict, Some (slice_index totals (column verdict)))

-- the lines of a summary
abbrev pub summary_lines : Summary → List ℕ
summary_lines s = flat_map summary_line (summary_entries s) ++ flat_map (total_line s.totals) ALL

-- the report of a run
abbrev pub summary_text : Run → List ℕ
summary_text u = summary_lines (summary_of u)
