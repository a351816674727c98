mod FirstSeat
