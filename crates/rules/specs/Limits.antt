-- Document 01, "Numbers that bound it": each limit, once. Every definition below names them, and so does the code (src/limits.rt).
use Rattle.std.specs.Prelude.{ℕ}

-- "Program addresses 0 to 4,095." and "Next address 0 to 4,096."
abbrev pub program_words : ℕ
program_words = 4096

-- "File at most 65,536 bytes"
abbrev pub longest_file : ℕ
longest_file = 65536

-- "line at most 80 bytes without its end"
abbrev pub longest_line : ℕ
longest_line = 80

-- "Symbols 256"
abbrev pub most_symbols : ℕ
most_symbols = 256

-- "entries per module 64 (blocks 4 and 13 together)"
abbrev pub most_entries : ℕ
most_entries = 64

-- "externals per module 64"
abbrev pub most_externals : ℕ
most_externals = 64

-- "modules per library section 256"
abbrev pub most_modules : ℕ
most_modules = 256

-- "Numbers in files are octal, one to six digits, at most 177777 (65,535)."
abbrev pub most_digits : ℕ
most_digits = 6

abbrev pub largest_number : ℕ
largest_number = 0o177777

-- "Names are 1 to 6 characters"
abbrev pub longest_name : ℕ
longest_name = 6

-- sub-records of an FPB record: "size at most 7"
abbrev pub most_sub_records : ℕ
most_sub_records = 7

-- "BASE over 4,095" is refused
abbrev pub largest_base : ℕ
largest_base = 4095

-- what HIGH and a highest reference are where there is none: "65,535"
abbrev pub no_address : ℕ
no_address = 65535

-- "its fixed length", of work memory: the paper leaves it to us; two cells for each of the parts that the longest file can have
abbrev pub work_size : ℕ
work_size = 65536

-- document 02, 5/14: a piece of a file has "up to 512 bytes"
abbrev pub longest_piece : ℕ
longest_piece = 512

-- document 02, 2/14: a lookup in a load reads "at most nine of the table's names"
abbrev pub most_names : ℕ
most_names = 9
