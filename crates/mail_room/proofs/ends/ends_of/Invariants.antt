use Rattle.mail_room.proofs.ends.ends_of.Given as goal

abbrev pub ghosts-new_ends : goal.ghosts-new_ends
ghosts-new_ends g a = record { capacity = a.capacity; letters = g.V.Letters.letters a._from a._to }
