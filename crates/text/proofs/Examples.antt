-- The text's definitions at work: document 01's example, and each way in which a line can be malformed. Each is computed.
use mathlib.Core.Path.{◌≡◌, refl}
use Rattle.std.specs.Prelude.{Some, None}
use Rattle.text.specs.Ascii.{ascii}
use Rattle.text.specs.Number.{worth, number, digits_in, digits}
use Rattle.text.specs.Line.{fields, same, with_one, with_two, with_three, parsed}
use Rattle.text.specs.Print.{word_bytes, line_bytes, line_number_bytes, bad_bytes, refused_bytes, end_bytes, queue_bytes}
use Rattle.text.specs.declared.Command.{Command}
use Rattle.text.specs.declared.Word.{Word}

-- ---- well-formed

queue : parsed (ascii "queue\t1\t2\t1") ≡ Some (Command.Queue 1 2 1)
unfolding parsed fields same with_one with_two with_three number worth
queue = refl

push : parsed (ascii "push\t0\t17") ≡ Some (Command.Push 0 17)
unfolding parsed fields same with_one with_two with_three number worth
push = refl

run : parsed (ascii "run\t0\t100") ≡ Some (Command.Run 0 100)
unfolding parsed fields same with_one with_two with_three number worth
run = refl

steal : parsed (ascii "steal\t0") ≡ Some (Command.Steal 0)
unfolding parsed fields same with_one with_two with_three number worth
steal = refl

batch : parsed (ascii "batch\t7\t63") ≡ Some (Command.Batch 7 63)
unfolding parsed fields same with_one with_two with_three number worth
batch = refl

take : parsed (ascii "take\t7\t64") ≡ Some (Command.Take 7 64)
unfolding parsed fields same with_one with_two with_three number worth
take = refl

len : parsed (ascii "len\t1") ≡ Some (Command.Len 1)
unfolding parsed fields same with_one with_two with_three number worth
len = refl

empty : parsed (ascii "empty\t2") ≡ Some (Command.Empty 2)
unfolding parsed fields same with_one with_two with_three number worth
empty = refl

pop : parsed (ascii "pop\t3") ≡ Some (Command.Pop 3)
unfolding parsed fields same with_one with_two with_three number worth
pop = refl

step : parsed (ascii "step\t18446744073709551615") ≡ Some (Command.Step 18_446_744_073_709_551_615)
unfolding parsed fields same with_one with_two with_three number worth
step = refl

-- ---- malformed

needless_zero : parsed (ascii "step\t01") ≡ None
unfolding parsed fields same with_one with_two with_three number worth
needless_zero = refl

two-zeros : parsed (ascii "step\t00") ≡ None
unfolding parsed fields same with_one with_two with_three number worth
two-zeros = refl

plus : parsed (ascii "step\t+1") ≡ None
unfolding parsed fields same with_one with_two with_three number worth
plus = refl

past : parsed (ascii "step\t18446744073709551616") ≡ None
unfolding parsed fields same with_one with_two with_three number worth
past = refl

long_past : parsed (ascii "step\t99999999999999999999") ≡ None
unfolding parsed fields same with_one with_two with_three number worth
long_past = refl

doubled_tab : parsed (ascii "step\t\t1") ≡ None
unfolding parsed fields same with_one with_two with_three number worth
doubled_tab = refl

leading_tab : parsed (ascii "\tstep\t1") ≡ None
unfolding parsed fields same with_one with_two with_three number worth
leading_tab = refl

trailing_tab : parsed (ascii "step\t1\t") ≡ None
unfolding parsed fields same with_one with_two with_three number worth
trailing_tab = refl

blank : parsed (ascii "step 1") ≡ None
unfolding parsed fields same with_one with_two with_three number worth
blank = refl

carriage_return : parsed (ascii "step\t1\r") ≡ None
unfolding parsed fields same with_one with_two with_three number worth
carriage_return = refl

upper_case : parsed (ascii "Step\t1") ≡ None
unfolding parsed fields same with_one with_two with_three number worth
upper_case = refl

missing : parsed (ascii "push\t1") ≡ None
unfolding parsed fields same with_one with_two with_three number worth
missing = refl

extra : parsed (ascii "step\t1\t1") ≡ None
unfolding parsed fields same with_one with_two with_three number worth
extra = refl

extra-queue : parsed (ascii "queue\t1\t2\t1\t1") ≡ None
unfolding parsed fields same with_one with_two with_three number worth
extra-queue = refl

unknown : parsed (ascii "stop\t1") ≡ None
unfolding parsed fields same with_one with_two with_three number worth
unknown = refl

nothing : parsed (ascii "") ≡ None
unfolding parsed fields same with_one with_two with_three number worth
nothing = refl

word-alone : parsed (ascii "step") ≡ None
unfolding parsed fields same with_one with_two with_three number worth
word-alone = refl

prefix : parsed (ascii "ste\t1") ≡ None
unfolding parsed fields same with_one with_two with_three number worth
prefix = refl

-- ---- the output

echoed : queue_bytes 1 2 1 ≡ ascii "queue\t1\t2\t1"
unfolding line_bytes line_number_bytes bad_bytes refused_bytes end_bytes queue_bytes word_bytes digits digits_in
echoed = refl

pushed : line_bytes 3 0 Word.Pushed ≡ ascii "3\t0\tpushed\n"
unfolding line_bytes line_number_bytes bad_bytes refused_bytes end_bytes queue_bytes word_bytes digits digits_in
pushed = refl

task : line_number_bytes 5 0 Word.Task 17 ≡ ascii "5\t0\ttask\t17\n"
unfolding line_bytes line_number_bytes bad_bytes refused_bytes end_bytes queue_bytes word_bytes digits digits_in
task = refl

emptied : line_bytes 7 0 Word.Empty ≡ ascii "7\t0\tempty\n"
unfolding line_bytes line_number_bytes bad_bytes refused_bytes end_bytes queue_bytes word_bytes digits digits_in
emptied = refl

ended : end_bytes 15 ≡ ascii "end\t15\n"
unfolding line_bytes line_number_bytes bad_bytes refused_bytes end_bytes queue_bytes word_bytes digits digits_in
ended = refl

malformed : bad_bytes 1 ≡ ascii "1\tbad\n"
unfolding line_bytes line_number_bytes bad_bytes refused_bytes end_bytes queue_bytes word_bytes digits digits_in
malformed = refl

refused : refused_bytes 1 1 ≡ ascii "1\trefused\t1\n"
unfolding line_bytes line_number_bytes bad_bytes refused_bytes end_bytes queue_bytes word_bytes digits digits_in
refused = refl

largest : digits 18_446_744_073_709_551_615 ≡ ascii "18446744073709551615"
unfolding line_bytes line_number_bytes bad_bytes refused_bytes end_bytes queue_bytes word_bytes digits digits_in
largest = refl

zero : digits 0 ≡ ascii "0"
unfolding line_bytes line_number_bytes bad_bytes refused_bytes end_bytes queue_bytes word_bytes digits digits_in
zero = refl
