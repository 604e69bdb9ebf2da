use Rattle.noc_files.proofs.stalls.write_stalls.Goals as goal

pub returns : goal.returns
returns g c = rw (c.as_str.ensures.value, c.header.ensures) at c.write_lines.ensures
