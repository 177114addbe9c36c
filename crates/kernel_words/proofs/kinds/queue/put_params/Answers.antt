use Rattle.kernel_words.proofs.kinds.queue.put_params.Goals as goal

pub returns : goal.returns
returns g c = rw c.from.ensures at c.put_number.ensures
