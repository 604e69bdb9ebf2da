-- A pattern and a layout fit the routers of a network.
use Rattle.std.specs.Prelude.{ℕ, length}
use Rattle.noc_sets.specs.Layout.{IsLayoutOf, Layout}
use Rattle.noc_sets.specs.Sets.{up_by}
use Rattle.noc_theory.specs.Network.{Setup}
use Rattle.noc_columns.specs.Picks.{channels_of, links_of, port_at}
use Rattle.noc_columns.specs.Planes.{list_of, planes_by}
use Rattle.noc_columns.specs.Routing.{IsOfPorts}
use Rattle.noc_columns.specs.Words.{all_of, set_alike}
use Rattle.noc_cycles.specs.Taking.{links_count}
use Rattle.noc_cycles.specs.declared.pattern.Pattern.{Pattern}

-- where planes of counts have so many bits
pub record FitsNetwork (count : ℕ) (net : Setup) (layout : Layout) (pattern : Pattern)
    : Type 0 where
  pub layout_is : IsLayoutOf count net.relation net.depth layout
  pub ports : IsOfPorts pattern.table.ports net.relation

-- the layout of the routers of a block
abbrev pub layout_of : Pattern → Layout
layout_of pattern = record {
  links = all_of (links_of pattern.table.ports.links);
  local = up_by (all_of (port_at pattern.table.ports.local 0)) (links_count pattern);
  places = list_of pattern.frame.deep
      (planes_by (set_alike (channels_of pattern.table.ports) 0) pattern.frame.places);
}

-- in planes of so many bits
abbrev pub bits_of : Pattern → ℕ
bits_of pattern = length (list_of pattern.frame.deep pattern.frame.places)
