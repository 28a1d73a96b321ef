use Rattle.writer.proofs.Writer.+put_number.Given as goal

-- the number, which loses its last digit
abbrev pub decreases-put_number : goal.decreases-put_number
decreases-put_number l = l.n
