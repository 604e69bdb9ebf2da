use Rattle.std.proofs.Common.{◌≡◌, rules}
use Rattle.noc_files.specs.Ranks.{rank_row}
use Rattle.noc_files.proofs.RankListingLemmas.{line_is}
use Rattle.noc_files.proofs.ranks.ListedLines.add_line.Goals as goal

pub returns-clause-said : goal.returns-clause-said
returns-clause-said c =
    let ranks = c.args.self.now.ranks.now in
    let rank : c.map-rank.result ≡ c.rank.result = search rules in
    rw (c.add_byte-2.ensures.added, c.add_or.ensures.added, rank, c.rank.ensures.value, c.add_column-2.ensures.added, c.add_byte.ensures.added, c.add.ensures.added, c.known_name.ensures.text, ← c.args.self.now.same, c.add_column.ensures.added)
    (line_is c.args.page.now ranks.grid (rank_row ranks c.args.router c.args.port c.args.vc))
