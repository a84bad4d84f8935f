use Rattle.der_reader.proofs.write.+put_integer.Given as goal

-- the number gets smaller
abbrev pub decreases-put_integer : goal.decreases-put_integer
decreases-put_integer l = l.number
