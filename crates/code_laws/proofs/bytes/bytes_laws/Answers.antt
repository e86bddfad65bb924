use Rattle.code_model.proofs.ByteLemmas.{length-bits_of, AreBits-bits_of}
use Rattle.code_laws.proofs.BytesLemmas.{bits_of-append, bit-bits_of, bits_from-part, bytes_of_bits-bits_of, bits_of-bytes_of_bits}
use Rattle.code_laws.proofs.bytes.bytes_laws.Goals as goal

pub returns-clause-long : goal.returns-clause-long
returns-clause-long c = length-bits_of

pub returns-clause-bits : goal.returns-clause-bits
returns-clause-bits c = AreBits-bits_of

pub returns-clause-append : goal.returns-clause-append
returns-clause-append c = bits_of-append

pub returns-clause-bit : goal.returns-clause-bit
returns-clause-bit c = bit-bits_of

pub returns-clause-run : goal.returns-clause-run
returns-clause-run c = bits_from-part

pub returns-clause-bytes_and_back : goal.returns-clause-bytes_and_back
returns-clause-bytes_and_back c = bytes_of_bits-bits_of

pub returns-clause-bits_and_back : goal.returns-clause-bits_and_back
returns-clause-bits_and_back c = bits_of-bytes_of_bits
