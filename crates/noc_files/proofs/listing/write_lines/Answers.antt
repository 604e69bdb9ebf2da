use Rattle.noc_files.proofs.PageLemmas.{listing_is}
use Rattle.noc_files.proofs.listing.write_lines.Goals as goal

pub returns : goal.returns
returns g c =
    let l = g.L.Lines in
    let lines = c.args.lines.now in
    rw (listing_is (l.grid lines) (l.listed lines) (l.vcs lines) c.args.router (l.said lines)) at c.write_pages.ensures
